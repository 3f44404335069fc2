-- What is put into an entry is read from it, and every other entry stays; zeros read as zeros. Four bytes are put together by division.
-- Assumes nothing.
use mathlib.Core.Logic.{◌≢◌}
use mathlib.Core.Path.{◌≡◌}
use mathlib.Core.List.{List}
use Prim.Native.Nat.{ℕ, ◌+◌, ◌*◌, ◌/◌, ◌%◌, ◌^◌, ◌≤◌, ◌<◌}
use native.Mathlib.Omega.{arith}
use native.Mathlib.Nat.{div-div-eq-div-mul, mod-eq_of_lt}
use native.Mathlib.Decide.{dec_lt}
use lib.ListN.{length, get_or, set, replicate, length-set, get_or-replicate, length-replicate, get_or-eq_default}
use lib.Seq.{get_or-set_same, get_or-set_other}
use Rattle.table.specs.Bytes.{entry, put, zeros}

pub length_put : (t : List ℕ) (p v : ℕ) → length (put t p v) ≡ length t
unfolding put
length_put t p v = simp length-set

-- four bytes make up a number below 2^32
digits : (v : ℕ) → v < 2 ^ 32
    → v % 256 + 256 * (v / 256 % 256) + 65536 * (v / 65536 % 256) + 16777216 * (v / 16777216 % 256) ≡ v
digits v l =
    let a : v / 256 / 256 ≡ v / 65536 = div-div-eq-div-mul v 256 256 in
    let b : v / 65536 / 256 ≡ v / 16777216 = div-div-eq-div-mul v 65536 256 in
    let m : v / 65536 ≡ 256 * (v / 16777216) + v / 65536 % 256 = rw (← b) (omega arith) in
    let n : v / 256 ≡ 256 * (v / 65536) + v / 256 % 256 = rw (← a) (omega arith) in
    let c : v / 16777216 < 256 = omega arith in
    let d : v / 16777216 % 256 ≡ v / 16777216 = mod-eq_of_lt c in
    let k : v ≡ 256 * (v / 256) + v % 256 = omega arith in
    omega arith

-- a byte outside the four, and each of the four
put_byte_other : (t : List ℕ) (p v j : ℕ) → j ≢ 4 * p → j ≢ 4 * p + 1 → j ≢ 4 * p + 2 → j ≢ 4 * p + 3 → get_or (put t p v) j 0 ≡ get_or t j 0
unfolding put
put_byte_other t p v j a b c d = rw (get_or-set_other, get_or-set_other, get_or-set_other, get_or-set_other)

module _ (t : List ℕ) (p v : ℕ) (h : 4 * p + 3 < length t) where
  put_byte_0 : get_or (put t p v) (4 * p) 0 ≡ v % 256
  unfolding put
  put_byte_0 =
      let a : 4 * p ≢ 4 * p + 1 = omega arith in
      let b : 4 * p ≢ 4 * p + 2 = omega arith in
      let c : 4 * p ≢ 4 * p + 3 = omega arith in
      let l : 4 * p < length t = omega arith in
      rw (get_or-set_other, get_or-set_other, get_or-set_other, get_or-set_same)

  put_byte_1 : get_or (put t p v) (4 * p + 1) 0 ≡ v / 256 % 256
  unfolding put
  put_byte_1 =
      let b : 4 * p + 1 ≢ 4 * p + 2 = omega arith in
      let c : 4 * p + 1 ≢ 4 * p + 3 = omega arith in
      let l : 4 * p + 1 < length (set t (4 * p) (v % 256)) = simp length-set (omega arith) in
      rw (get_or-set_other, get_or-set_other, get_or-set_same)

  put_byte_2 : get_or (put t p v) (4 * p + 2) 0 ≡ v / 65536 % 256
  unfolding put
  put_byte_2 =
      let c : 4 * p + 2 ≢ 4 * p + 3 = omega arith in
      let l : 4 * p + 2 < length (set (set t (4 * p) (v % 256)) (4 * p + 1) (v / 256 % 256)) = simp length-set (omega arith) in
      rw (get_or-set_other, get_or-set_same)

  put_byte_3 : get_or (put t p v) (4 * p + 3) 0 ≡ v / 16777216 % 256
  unfolding put
  put_byte_3 =
      let l : 4 * p + 3 < length (set (set (set t (4 * p) (v % 256)) (4 * p + 1) (v / 256 % 256)) (4 * p + 2) (v / 65536 % 256)) = simp length-set (omega arith) in
      rw get_or-set_same

  pub entry_put_same : v < 2 ^ 32 → entry (put t p v) p ≡ v
  unfolding entry
  entry_put_same l = omega (arith, put_byte_0, put_byte_1, put_byte_2, put_byte_3, digits v l)

pub entry_put_other : (t : List ℕ) (p v r : ℕ) → (r ≡ p → ⊥) → entry (put t p v) r ≡ entry t r
unfolding entry
entry_put_other t p v r h =
    omega (
      arith,
      put_byte_other t p v (4 * r) (omega arith) (omega arith) (omega arith) (omega arith),
      put_byte_other t p v (4 * r + 1) (omega arith) (omega arith) (omega arith) (omega arith),
      put_byte_other t p v (4 * r + 2) (omega arith) (omega arith) (omega arith) (omega arith),
      put_byte_other t p v (4 * r + 3) (omega arith) (omega arith) (omega arith) (omega arith),
    )

-- a value is one of four bytes
pub entry_lt : (t : List ℕ) → ((i : ℕ) → get_or t i 0 < 256) → (p : ℕ) → entry t p < 2 ^ 32
unfolding entry
entry_lt t h p = omega (arith, h (4 * p), h (4 * p + 1), h (4 * p + 2), h (4 * p + 3))

-- ---- zeros

pub get_or_zeros : (n i : ℕ) → get_or (zeros n) i 0 ≡ 0
unfolding zeros
get_or_zeros n i = elim (dec_lt i n) [ yes l ↦ get_or-replicate n i 0 0 l | no f ↦ get_or-eq_default (replicate n 0) 0 (out n i f) ]
  where
    out : (n i : ℕ) → (i < n → ⊥) → length {A = ℕ} (replicate n 0) ≤ i
    out n i f = omega (arith, length-replicate {A = ℕ} n 0)

pub entry_zeros : (n p : ℕ) → entry (zeros n) p ≡ 0
unfolding entry
entry_zeros n p = omega (arith, get_or_zeros n (4 * p), get_or_zeros n (4 * p + 1), get_or_zeros n (4 * p + 2), get_or_zeros n (4 * p + 3))

pub length_zeros : (n : ℕ) → length (zeros n) ≡ n
unfolding zeros
length_zeros n = length-replicate n 0
