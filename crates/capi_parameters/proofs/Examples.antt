-- VPID codes from C on examples.
-- By computation.
use Rattle.std.specs.Prelude.{Some, None}
use mathlib.Core.Path.{◌≡◌, refl}
use Rattle.capi_parameters.specs.Calls.{vpid_of}

-- 255 is a code, and 256 is none
code : vpid_of 255 ≡ Some 255
code = refl

no_code : vpid_of 256 ≡ None
no_code = refl
