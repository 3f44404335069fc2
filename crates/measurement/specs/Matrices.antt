-- Square matrices modulo 2 over a side s: a matrix is the number in row i and column j, for i and j below s. Assumes nothing.
use Rattle.std.specs.Prelude.{Bool, ◌&&◌, List, [], ◌≡◌, ℕ, zero, suc, ◌+◌, ◌*◌, ◌/◌, ◌%◌, ◌<◌, ◌≤◌, eqb, leb, length, get_or}
use Rattle.bicycle_common.specs.Ranges.{sum, all_below, listed}
use Rattle.bicycle_common.specs.Letters.{flag}

-- the matrices of the bicycle architecture are 6 by 6
abbrev pub side : ℕ
side = 6

abbrev pub Matrix : Type 0
Matrix = ℕ → ℕ → ℕ

-- ---- how a matrix is held

-- as an array of rows
abbrev pub of_rows : List (List ℕ) → Matrix
of_rows m i j = get_or (get_or m i []) j 0

-- its numbers by rows
abbrev pub by_rows : ℕ → List (List ℕ) → List ℕ
by_rows s m = listed (λ (q : ℕ). of_rows m (q / s) (q % s)) (s * s)

-- as bytes, by rows
abbrev pub of_bytes : ℕ → List ℕ → Matrix
of_bytes s m i j = get_or m (s * i + j) 0

-- ---- the identity, products and powers, modulo 2

unfoldable pub one : Matrix
one i k = flag (eqb i k)

unfoldable pub mul : ℕ → Matrix → Matrix → Matrix
mul s a b i k = sum s (λ (j : ℕ). a i j * b j k) % 2

unfoldable pub pow : ℕ → Matrix → ℕ → Matrix
pow s m zero = one
pow s m (suc n) = mul s (pow s m n) m

-- ---- matrices of zeros and ones

-- no number of m is over 1
unfoldable pub is_binary : ℕ → Matrix → Bool
is_binary s m = all_below s (λ (i : ℕ). all_below s (λ (k : ℕ). leb (m i k) 1))

-- the same, as a statement
abbrev pub Binary : ℕ → Matrix → Type 0
Binary s m = (i k : ℕ) → i < s → k < s → m i k ≤ 1

-- bytes hold a matrix of zeros and ones: there are s * s of them, and none is over 1
abbrev pub is_bytes : ℕ → List ℕ → Bool
is_bytes s m = eqb (length m) (s * s) && is_binary s (of_bytes s m)

-- two matrices agree below the side
abbrev pub Same : ℕ → Matrix → Matrix → Type 0
Same s a b = (i k : ℕ) → i < s → k < s → a i k ≡ b i k
