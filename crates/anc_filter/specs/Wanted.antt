-- Which records are wanted: "a record is wanted if the row is empty or both its DID and SDID match an entry" (01, "SDP parameters"), and of
-- Type 1 "when the DID matches" (02, K1).
use Rattle.std.specs.Prelude.{Bool, false, ◌&&◌, ◌||◌, List, [], ◌∷◌, ℕ, length, eqb, leb, ltb}
use Rattle.anc_filter.specs.declared.DidSdid.{DidSdid}

-- "Where a DID is 0x80 or above, the packet is Type 1 and its second word is a data block number, not an SDID."
abbrev pub type1_from : ℕ
type1_from = 0x80

abbrev pub is_type1 : ℕ → Bool
is_type1 did = leb type1_from did

-- "both its DID and SDID match an entry", and "A Type 1 record is wanted when the DID matches, whichever second number either side has.":
-- the record's numbers, and the entry's
unfoldable pub matching : ℕ → ℕ → ℕ → ℕ → Bool
matching did sdid entry_did entry_sdid = eqb entry_did did && (is_type1 did || eqb entry_sdid sdid)

-- over plain octets, DID and SDID in turn; a last octet without an SDID is no entry
unfoldable pub any_in : ℕ → ℕ → List ℕ → Bool
any_in did sdid [] = false
any_in did sdid (d ∷ []) = false
any_in did sdid (d ∷ s ∷ pairs) = matching did sdid d s || any_in did sdid pairs

-- "wanted if the row is empty or ..": fewer than two octets have no entry
abbrev pub wanted_in : ℕ → ℕ → List ℕ → Bool
wanted_in did sdid pairs = ltb (length pairs) 2 || any_in did sdid pairs

-- the same of an entry that is a pair
abbrev pub matching_pair : ℕ → ℕ → DidSdid → Bool
matching_pair did sdid p = matching did sdid p.did p.sdid

-- over a list of pairs
unfoldable pub any_of : ℕ → ℕ → List DidSdid → Bool
any_of did sdid [] = false
any_of did sdid (p ∷ pairs) = matching_pair did sdid p || any_of did sdid pairs

-- "a record is wanted if the row is empty or .." an entry matches
abbrev pub wanted_of : ℕ → ℕ → List DidSdid → Bool
wanted_of did sdid pairs = eqb (length pairs) 0 || any_of did sdid pairs

-- a list of pairs as plain octets, DID and SDID in turn
abbrev pub octets_of : List DidSdid → List ℕ
octets_of [] = []
octets_of (p ∷ pairs) = p.did ∷ p.sdid ∷ octets_of pairs

-- the DIDs of a list of pairs
abbrev pub dids_of : List DidSdid → List ℕ
dids_of [] = []
dids_of (p ∷ pairs) = p.did ∷ dids_of pairs
