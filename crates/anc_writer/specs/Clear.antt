-- 16 over a list that is gone through once (02, K5: "in writing 16 with the record's index, after 20").
use Rattle.std.specs.Prelude.{Bool, cond, ◌&&◌, ℕ, ◌+◌, eqb}

-- how many records stand before the first that has a protected word: `first` of `count`, and one record more
abbrev pub clear_before : (first count : ℕ) → Bool → ℕ
clear_before first count clear = cond (clear && eqb first count) (count + 1) first
