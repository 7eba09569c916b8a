-- WHAT A REFUSED ARRIVAL LEAVES OF THE ROWS: "Lent memory is unchanged, and so is the keeper's state, but 32 adds one to the late count" (01); 36 "changes
-- only the remembered number" (02, K11).
use Rattle.std.specs.Prelude.{◌≡◌, List, ℕ, ◌+◌, ◌-◌, ◌^◌, ◌%◌, min, get_or, set}
use Rattle.wire_spec.specs.Bits.{overwrite}
use Rattle.wire_spec.specs.Layout.{Layout}
use Rattle.wire_spec.specs.Result.{Ok}
use Rattle.wire_spec.specs.Packet.{Content, read_content}
use Rattle.capi_depacketizer.specs.Calls.{Arrived}

-- the row then is the row before, but for number 10 after 32, and numbers 12 and 13 after 36
pub record Keeps (L : Layout) (state octets lent : List ℕ) (a : Arrived) : Type 0 where
  pub late : a.reply.number ≡ 32
      → (overwrite a.numbers state ≡ set state 10 (min (get_or state 10 0 + 1) (2 ^ 64 - 1))) × (a.store ≡ lent)
  pub far : a.reply.number ≡ 36
      → (k : Content) × (read_content L octets ≡ Ok k) × (overwrite a.numbers state ≡ set (set state 12 1) 13 ((k.number + 1) % 2 ^ 32)) × (a.store ≡ lent)
  pub other : (a.reply.number ≡ 0 → ⊥) → (a.reply.number ≡ 32 → ⊥) → (a.reply.number ≡ 36 → ⊥)
      → (overwrite a.numbers state ≡ state) × (a.store ≡ lent)
