-- The numbers of the boundary on examples.
-- By computation.
use mathlib.Core.Path.{◌≡◌, refl}
use mathlib.Core.List.{[]}
use lib.ListN.{replicate}
use Rattle.capi_packet.specs.Calls.{read_reply}

-- an answer of eight numbers: 255, whatever the layout
short-answer : read_reply 2 [] [] (replicate 8 0) ≡ record { number = 255; row = [] }
short-answer = refl

-- 2 is no layout
no-layout : read_reply 2 [] [] (replicate 9 0) ≡ record { number = 254; row = [] }
no-layout = refl
