-- The queue while it is short: its last two mebibytes hold a digit for each string, which is 1 where the string has an entry. Before them are
-- 67,108,864 - 2,097,152 = 65,011,712 bytes: room for 16,252,928 strings, and the first digit is that of number 8 · 65,011,712 = 520,093,696.
-- Assumes nothing.
use Rattle.std.specs.Prelude.{Bool, true, cond, List, ◌++◌, ◌≡◌, ℕ, ◌+◌, ◌-◌, ◌≤◌, ◌<◌, ◌^◌, length, take}
use Rattle.shortest.specs.Graphs.{Has}
use Rattle.table.specs.Bytes.{entry, zeros}
use Rattle.digits.specs.Digits.{digit, one}

-- the first n bytes, and zeros
unfoldable pub fore : ℕ → List ℕ → List ℕ
fore n l = take n l ++ zeros (length l - n)

-- the queue without the digits behind it
abbrev pub strung : Bool → List ℕ → List ℕ
strung short l = cond short (fore 65011712 l) l

-- the digit of string x
abbrev pub note : List ℕ → ℕ → ℕ
note l x = digit l (520093696 + x)

-- the queue with that digit made 1, if it is short
abbrev pub noted : Bool → List ℕ → ℕ → List ℕ
noted short l x = cond short (one l (520093696 + x)) l

-- behind a short queue a string has the digit 1 where it has an entry, and only there
abbrev pub Notes : Bool → ℕ → List ℕ → List ℕ → Type 0
Notes short q l t = short ≡ true → (x : ℕ) → x < 4 ^ q → (note l x ≡ 1 → Has (entry t) x) × ((note l x ≡ 1 → ⊥) → entry t x ≡ 0)

-- a short queue with c strings has room for k more before the digits
abbrev pub Room : Bool → ℕ → ℕ → Type 0
Room short c k = short ≡ true → c + k ≤ 16252928
