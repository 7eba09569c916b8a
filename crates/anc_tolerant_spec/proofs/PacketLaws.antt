-- A packet in the tolerant way and in the strict one: the same with none left out, the same refusals but 11, and 11 never.
-- Both run the same stages before the ANC packets, and the laws of runs say the rest.
use mathlib.Core.Path.{◌≡◌, refl, ap, sym, ◌∙◌}
use mathlib.Core.Bool.{Bool, true, false, not}
use mathlib.Core.Logic.{◌↔◌}
use mathlib.Core.List.{List, [], ◌∷◌}
use Prim.Native.Nat.{ℕ, ◌≤◌}
use lib.Dec.{eqb, leb}
use lib.ListN.{length, take, drop}
use Rattle.wire_spec.specs.declared.refusal.Refusal.{Refusal}
use Rattle.wire_spec.specs.Bits.{Below}
use Rattle.wire_spec.specs.Layout.{Layout}
use Rattle.wire_spec.specs.Result.{Result, Err, Ok, Checks, judge, ◌then◌}
use Rattle.wire_spec.specs.Anc.{Record, read_run}
use Rattle.wire_spec.specs.Cells.{list_of}
use Rattle.wire_spec.specs.Packet.{length_field, anc_count, run_at, packet_read, header_checks, padding_checks, payload_checks, read_records, read_packet, Content, content, read_content, read_into, BareOctets}
use Rattle.wire_spec.specs.Writing.{max_cells, content_octets, write_content}
use Rattle.wire_spec.proofs.ResultLaws.{Passed, Numbered, numbers, and-true, judge-numbered, then-numbered, accepted-inj, judge-accepts, judge-passes, then-accepts}
use Rattle.wire_spec.proofs.PacketLaws.{not_eqb}
use Rattle.wire_spec.proofs.OrderLaws.{judge-behind}
use Rattle.wire_spec.proofs.Demand2.{rewritten-iff}
use Rattle.anc_tolerant_spec.specs.Tolerant.{is_not11, Taken, tolerate_run, Tolerated, tolerated, tolerate_content, tolerate_into}
use Rattle.anc_tolerant_spec.proofs.StrictLaws.{Ok≢Err, refused-inj, whole, run-agrees, run-never-11, run_none}

-- what the same checks refuse, or what is refused behind them
judge-agrees : {A B : Type 0} (i : ℕ) (ts : Checks) (y : Result A) (z : Result B) (x : Refusal) → judge i ts y ≡ Err x
    → (y ≡ Err x → z ≡ Err x) → judge i ts z ≡ Err x
judge-agrees i [] y z x e f = f e
judge-agrees i ((true, n) ∷ ts) y z x e f = judge-agrees i ts y z x e f
judge-agrees i ((false, n) ∷ ts) y z x e f = ap Err (refused-inj e)

-- checks of other numbers pass where the answer behind them is refused by this one
judge-other : {A : Type 0} (i n : ℕ) (ts : Checks) (y : Result A) (x : Refusal) → numbers (λ m. not (eqb m n)) ts ≡ true → judge i ts y ≡ Err x → x.number ≡ n
    → Passed ts × (y ≡ Err x)
judge-other i n [] y x h e z = (tt, e)
judge-other i n ((true, m) ∷ ts) y x h e z = let r = judge-other i n ts y x (and-true (not (eqb m n)) _ h).1 e z in ((refl, r.0), r.1)
judge-other i n ((false, m) ∷ ts) y x h e z =
    absurd (not_eqb m n (and-true (not (eqb m n)) _ h).0 (ap (λ (r : Refusal). r.number) (refused-inj e) ∙ z))

-- what a packet says, with none left out
abbrev pub wholly : Content → Tolerated
wholly k = record { says = k; left_out = 0 }

module _ (L : Layout) (s : List ℕ) where
  -- 1 to 8
  abbrev pub staged : {A : Type 0} → Result A → Result A
  staged x = judge 0 (header_checks s) (judge 0 (padding_checks L s) (judge 0 (payload_checks L s) x))

  -- the ANC packets' octets
  abbrev pub region : List ℕ
  region = take (length_field s) (drop (run_at L s) s)

  -- 13, of what the strict way took
  abbrev strictly : List Record × List ℕ → Result Content
  strictly q = judge 0 ((eqb (length q.1) 0, 13) ∷ []) (Ok (content (packet_read L q.0 s)))

  -- the strict way in the stages of the tolerant one
  strict-staged : read_content L s ≡ staged (read_run L 0 (anc_count s) region then strictly)
  unfolding read_content read_packet read_records
  strict-staged =
      judge-behind 0 (header_checks s) _ (λ k. Ok (content k))
      ∙ ap (judge 0 (header_checks s)) (judge-behind 0 (padding_checks L s) _ (λ k. Ok (content k))
      ∙ ap (judge 0 (padding_checks L s)) (judge-behind 0 (payload_checks L s) _ (λ k. Ok (content k))
      ∙ ap (judge 0 (payload_checks L s)) (go (read_run L 0 (anc_count s) region))))
    where
      one : (t : Bool) (q : List Record × List ℕ)
          → ((judge 0 ((t, 13) ∷ []) (Ok q.0) then λ rs. Ok (packet_read L rs s)) then λ k. Ok (content k))
          ≡ judge 0 ((t, 13) ∷ []) (Ok (content (packet_read L q.0 s)))
      one true q = refl
      one false q = refl

      go : (v : Result (List Record × List ℕ))
          → (((v then λ q. judge 0 ((eqb (length q.1) 0, 13) ∷ []) (Ok q.0)) then λ rs. Ok (packet_read L rs s)) then λ k. Ok (content k))
          ≡ (v then strictly)
      go (Err x) = refl
      go (Ok q) = one (eqb (length q.1) 0) q

  -- what a run left out its packet left out
  left_out_lem : (q : Taken) (t : Tolerated) → tolerated L s q ≡ Ok t → q.left_out ≡ t.left_out
  unfolding tolerated
  left_out_lem q t e = ap (λ (x : Tolerated). x.left_out) (accepted-inj (judge-accepts 0 ((eqb (length q.rest) 0, 13) ∷ []) _ t e).1)

  -- 13, of a run with none left out
  whole-iff : (q : List Record × List ℕ) (k : Content) → (tolerated L s (whole q.0 q.1) ≡ Ok (wholly k)) ↔ (strictly q ≡ Ok k)
  unfolding tolerated
  whole-iff q k = go (eqb (length q.1) 0)
    where
      go : (t : Bool)
          → (judge 0 ((t, 13) ∷ []) (Ok (wholly (content (packet_read L q.0 s)))) ≡ Ok (wholly k))
          ↔ (judge 0 ((t, 13) ∷ []) (Ok (content (packet_read L q.0 s))) ≡ Ok k)
      go true = (λ e. ap Ok (ap (λ (x : Tolerated). x.says) (accepted-inj e)), λ e. ap Ok (ap wholly (accepted-inj e)))
      go false = (λ e. absurd (Ok≢Err (sym e)), λ e. absurd (Ok≢Err (sym e)))

  whole-agrees : (q : List Record × List ℕ) (x : Refusal) → strictly q ≡ Err x → tolerated L s (whole q.0 q.1) ≡ Err x
  unfolding tolerated
  whole-agrees q x e = judge-agrees 0 ((eqb (length q.1) 0, 13) ∷ []) _ _ x e (λ h. absurd (Ok≢Err h))

  -- THE TOLERANT WAY WITH NONE LEFT OUT is the strict way
  pub none-left-out : (k : Content) → (tolerate_content L s ≡ Ok (wholly k)) ↔ (read_content L s ≡ Ok k)
  unfolding tolerate_content
  none-left-out k =
      let run = tolerate_run L 0 (anc_count s) region in
      let strict = read_run L 0 (anc_count s) region in (
        λ e.
            let a = judge-accepts 0 (header_checks s) _ _ e in
            let b = judge-accepts 0 (padding_checks L s) _ _ a.1 in
            let c = judge-accepts 0 (payload_checks L s) _ _ b.1 in
            let d = then-accepts run (tolerated L s) _ c.1 in
            let q = d.0 in
            let z = left_out_lem q (wholly k) d.2 in
            let m = (run_none L 0 (anc_count s) region q.records q.rest).0 (d.1 ∙ ap Ok (λ j. record { records = q.records; left_out = z j; rest = q.rest })) in
            let f = (whole-iff (q.records, q.rest) k).0 (ap (λ (n : ℕ). tolerated L s (record { records = q.records; left_out = n; rest = q.rest })) (sym z) ∙ d.2) in
            strict-staged ∙ judge-passes 0 (header_checks s) _ a.0 ∙ judge-passes 0 (padding_checks L s) _ b.0 ∙ judge-passes 0 (payload_checks L s) _ c.0
            ∙ ap (λ x. x then strictly) m ∙ f,
        λ e.
            let a = judge-accepts 0 (header_checks s) _ _ (sym strict-staged ∙ e) in
            let b = judge-accepts 0 (padding_checks L s) _ _ a.1 in
            let c = judge-accepts 0 (payload_checks L s) _ _ b.1 in
            let d = then-accepts strict strictly _ c.1 in
            judge-passes 0 (header_checks s) _ a.0 ∙ judge-passes 0 (padding_checks L s) _ b.0 ∙ judge-passes 0 (payload_checks L s) _ c.0
            ∙ ap (λ x. x then tolerated L s) ((run_none L 0 (anc_count s) region d.0.0 d.0.1).1 d.1)
            ∙ (whole-iff d.0 k).1 d.2,
      )

  -- A REFUSAL OF THE STRICT WAY by another number than 11 is the tolerant way's too, with the same index
  pub content-agrees : (x : Refusal) → read_content L s ≡ Err x → (x.number ≡ 11 → ⊥) → tolerate_content L s ≡ Err x
  unfolding tolerate_content
  content-agrees x e h =
      judge-agrees 0 (header_checks s) _ _ x (sym strict-staged ∙ e)
      (λ a. judge-agrees 0 (padding_checks L s) _ _ x a
      (λ b. judge-agrees 0 (payload_checks L s) _ _ x b
      (λ c. go (read_run L 0 (anc_count s) region) refl c)))
    where
      go : (v : Result (List Record × List ℕ)) → read_run L 0 (anc_count s) region ≡ v → (v then strictly) ≡ Err x
          → (tolerate_run L 0 (anc_count s) region then tolerated L s) ≡ Err x
      go (Err y) a c = ap (λ r. r then tolerated L s) (run-agrees L 0 (anc_count s) region x (a ∙ ap Err (refused-inj c)) h)
      go (Ok q) a c =
          ap (λ r. r then tolerated L s) ((run_none L 0 (anc_count s) region q.0 q.1).1 a) ∙ whole-agrees q x c

  -- and with 14 behind it
  pub into-none : (room : ℕ) (k : Content) → read_into L s room ≡ Ok k → tolerate_into L s room ≡ Ok (wholly k)
  unfolding read_into tolerate_into
  into-none room k e =
      let a = then-accepts (read_content L s) _ k e in
      let b = judge-accepts 0 ((leb (length (list_of a.0.records)) room, 14) ∷ []) _ k a.2 in
      rw ((none-left-out a.0).1 a.1, b.0.0) (ap (λ (x : Content). Ok (wholly x)) (accepted-inj b.1))

  pub into-agrees : (room : ℕ) (x : Refusal) → read_into L s room ≡ Err x → (x.number ≡ 11 → ⊥) → tolerate_into L s room ≡ Err x
  unfolding read_into tolerate_into
  into-agrees room x e h = go (read_content L s) refl e
    where
      fits : Content → Checks
      fits k = (leb (length (list_of k.records)) room, 14) ∷ []

      go : (v : Result Content) → read_content L s ≡ v → (v then λ k. judge 0 (fits k) (Ok k)) ≡ Err x
          → (tolerate_content L s then λ t. judge 0 (fits t.says) (Ok t)) ≡ Err x
      go (Err y) a c = rw (content-agrees y a (λ (z : y.number ≡ 11). h (sym (ap (λ (w : Refusal). w.number) (refused-inj c)) ∙ z))) (ap Err (refused-inj c))
      go (Ok k) a c =
          rw ((none-left-out k).1 a) (judge-agrees 0 (fits k) (Ok k) (Ok (wholly k)) x c (λ z. absurd (Ok≢Err z)))

  -- a packet that the strict way refuses by 11 passes 1 to 8
  pub into-11 : (room : ℕ) (x : Refusal) → read_into L s room ≡ Err x → x.number ≡ 11
      → Passed (header_checks s) × Passed (padding_checks L s) × Passed (payload_checks L s)
  unfolding read_into header_checks padding_checks payload_checks
  into-11 room x e h = go (read_content L s) refl e
    where
      go : (v : Result Content) → read_content L s ≡ v → (v then λ k. judge 0 ((leb (length (list_of k.records)) room, 14) ∷ []) (Ok k)) ≡ Err x
          → Passed (header_checks s) × Passed (padding_checks L s) × Passed (payload_checks L s)
      go (Err y) a c =
          let p = judge-other 0 11 (header_checks s) _ x refl (sym strict-staged ∙ a ∙ ap Err (refused-inj c)) h in
          let q = judge-other 0 11 (padding_checks L s) _ x refl p.1 h in
          let r = judge-other 0 11 (payload_checks L s) _ x refl q.1 h in
          (p.0, q.0, r.0)
      go (Ok k) a c =
          let p = judge-other 0 11 ((leb (length (list_of k.records)) room, 14) ∷ []) (Ok k) x refl c h in
          absurd (Ok≢Err p.1)

  -- behind 1 to 8
  pub past : Passed (header_checks s) → Passed (padding_checks L s) → Passed (payload_checks L s)
      → tolerate_content L s ≡ (tolerate_run L 0 (anc_count s) region then tolerated L s)
  unfolding tolerate_content
  past ph pp py = judge-passes 0 (header_checks s) _ ph ∙ judge-passes 0 (padding_checks L s) _ pp ∙ judge-passes 0 (payload_checks L s) _ py

  -- "11 isn't given in the tolerant way"
  pub never-11 : (room : ℕ) → Numbered is_not11 (tolerate_into L s room)
  unfolding tolerate_into tolerate_content tolerated header_checks padding_checks payload_checks
  never-11 room =
      then-numbered is_not11 (tolerate_content L s) _
      (judge-numbered is_not11 0 (header_checks s) _ refl
      (judge-numbered is_not11 0 (padding_checks L s) _ refl
      (judge-numbered is_not11 0 (payload_checks L s) _ refl
      (then-numbered is_not11 (tolerate_run L 0 (anc_count s) region) (tolerated L s) (run-never-11 L 0 (anc_count s) region)
      (λ q. judge-numbered is_not11 0 ((eqb (length q.rest) 0, 13) ∷ []) (Ok (record { says = content (packet_read L q.records s); left_out = q.left_out })) refl tt)))))
      (λ t. judge-numbered is_not11 0 ((leb (length (list_of t.says.records)) room, 14) ∷ []) (Ok t) refl tt)

  -- "Demand 2's rewriting holds for the tolerant way where none were left out."
  pub tolerant-rewritten-iff : Below 256 s → (k : Content) → tolerate_content L s ≡ Ok (wholly k) → length (list_of k.records) ≤ max_cells
      → (room : ℕ) → length (content_octets L k) ≤ room → (write_content L k (list_of k.records) room ≡ Ok s) ↔ BareOctets L s
  tolerant-rewritten-iff below k e l room m = rewritten-iff L s below k ((none-left-out k).0 e) l room m
