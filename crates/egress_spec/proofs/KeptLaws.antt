-- An offer puts the packet at the end of its channel's queue, and leaves every other queue.
use mathlib.Core.Path.{◌≡◌, ◌∙◌}
use mathlib.Core.Bool.{true}
use mathlib.Core.List.{List, [], ◌∷◌, ◌++◌}
use Prim.Native.Nat.{ℕ, suc, ◌+◌, ◌*◌, ◌%◌, ◌≤◌, ◌<◌}
use native.Mathlib.Omega.{arith}
use lib.ListN.{length, get_or}
use lib.Seq.{get_or-set_same, get_or-set_other}
use Rattle.wire_spec.specs.Bits.{splice}
use Rattle.egress_spec.specs.declared.state.State.{State}
use Rattle.egress_spec.specs.Places.{held, slot_at, sound}
use Rattle.egress_spec.specs.Step.{free_slot, place_of, packet_at, kept_state}
use Rattle.egress_spec.proofs.Agreement.{queue_from}
use Rattle.egress_spec.proofs.PlaceLaws.{held-ready, place-held, place-low, place-channel}
use Rattle.egress_spec.proofs.FreeLaws.{held-apart}
use Rattle.egress_spec.proofs.MemoryLaws.{slot_kept, part-itself, queue-same, queue-more}

place-apart : (c h i n : ℕ) → h < 8 → i < n → n < 8 → 8 * c + (h + i) % 8 ≡ 8 * c + (h + n) % 8 → ⊥
place-apart c h i n a b d e = omega arith

module _ (st : State) (c : ℕ) (m p : List ℕ) (s : sound st ≡ true) (lc : c < 8) (size : length m ≡ 65536) (lp : length p ≤ 1024)
    (hh : get_or st.heads c 0 < 8) (hn : get_or st.counts c 0 < 8) (free : free_slot st < 64)
    (ls : length st.slots ≡ 64) (ll : length st.lengths ≡ 64) where
  abbrev at : ℕ
  at = place_of st c (get_or st.counts c 0)

  abbrev next : State
  next = kept_state st c (free_slot st) (length p)

  abbrev memory : List ℕ
  memory = splice m (1024 * free_slot st) p

  packet-kept : (k : ℕ) → (k ≡ at → ⊥) → k < 64 → held st k ≡ true → packet_at next memory k ≡ packet_at st m k
  packet-kept k d l h =
      let r = held-ready st k s l h in
      rw (get_or-set_other st.slots at k (free_slot st) 0 d, get_or-set_other st.lengths at k (length p) 0 d)
      (slot_kept m p (free_slot st) (slot_at st k) (get_or st.lengths k 0) size free r.slot (held-apart st k free l h) lp r.most)

  packet-new : packet_at next memory at ≡ p
  packet-new =
      let low = place-low c (get_or st.heads c 0 + get_or st.counts c 0) lc in
      rw (get_or-set_same st.slots at (free_slot st) 0 (omega arith), get_or-set_same st.lengths at (length p) 0 (omega arith))
      (part-itself m p (1024 * free_slot st) (omega arith))

  -- the channel's own queue has the packet at its end
  pub kept-own : queue_from next memory c (suc (get_or st.counts c 0)) 0 ≡ queue_from st m c (get_or st.counts c 0) 0 ++ (p ∷ [])
  kept-own =
      let n = get_or st.counts c 0 in
      let h = get_or st.heads c 0 in
      let same = queue-same next st memory m c n 0 0 (λ k g. packet-kept (place_of st c (0 + k)) (λ e. place-apart c h (0 + k) n hh (omega arith) hn e)
      (place-low c (h + (0 + k)) lc) (rw (place-channel c (h + (0 + k))) (place-held c h (0 + k) n hh (omega arith) (omega arith)))) in
      let z : 0 + n ≡ n = omega arith in
      queue-more next memory c n 0 ∙ rw (same, z, packet-new)

  -- any other queue is as it was
  pub kept-other : (d : ℕ) → d < 8 → (d ≡ c → ⊥) → get_or st.heads d 0 < 8 → get_or st.counts d 0 ≤ 8
      → queue_from next memory d (get_or st.counts d 0) 0 ≡ queue_from st m d (get_or st.counts d 0) 0
  kept-other d l e hd hc =
      let n = get_or st.counts d 0 in
      let h = get_or st.heads d 0 in
      queue-same next st memory m d n 0 0 (λ k g. packet-kept (place_of st d (0 + k)) (λ z. e (channels d c (h + (0 + k)) (get_or st.heads c 0 + get_or st.counts c 0) z))
      (place-low d (h + (0 + k)) l) (rw (place-channel d (h + (0 + k))) (place-held d h (0 + k) n hd (omega arith) hc)))
    where
      channels : (d c x y : ℕ) → 8 * d + x % 8 ≡ 8 * c + y % 8 → d ≡ c
      channels d c x y e = omega arith
