-- A short queue is its strings and, behind them, digits: putting a string leaves the digits alone, setting a digit leaves the strings alone,
-- so the digits tell at every moment which strings have an entry. Assumes nothing.
use mathlib.Core.Path.{◌≡◌, refl, sym, ap, ap₂, subst, ◌∙◌}
use mathlib.Core.Bool.{Bool, true, false, not}
use mathlib.Core.List.{List, ◌∷◌, ◌++◌}
use Prim.Native.Nat.{ℕ, zero, suc, ◌+◌, ◌-◌, ◌*◌, ◌/◌, ◌%◌, ◌^◌, ◌≤◌, ◌<◌}
use native.Mathlib.Nat.{le_of_suc-le-suc, not-suc-le-zero, zero-div}
use native.Mathlib.Omega.{arith}
use native.Mathlib.Decide.{ℕ_discrete}
use lib.Dec.{T, eqb, lit<}
use lib.ListN.{length, get_or, set, take, replicate, length-set, length-take, length-append, length-replicate, replicate-append-replicate, get_or-append}
use lib.Seq.{length-take-le, set-append_left, take-set-le, take-set-lt, get_or-take, get_or-set_other}
use Rattle.bicycle_common.specs.Ranges.{in_turn}
use Rattle.pauli_string.specs.Strings.{bit, set_bit}
use Rattle.natives.specs.Kept.{kept_for}
use Rattle.shortest.specs.Graphs.{Has}
use Rattle.table.specs.Bytes.{table_length, entry, put, zeros}
use Rattle.table.proofs.Bytes.{length_put, length_zeros, get_or_zeros, entry_zeros, entry_put_same, entry_put_other}
use Rattle.table.specs.Entries.{value, identity}
use Rattle.table.proofs.Entries.{value_some}
use Rattle.digits.specs.Digits.{one}
use Rattle.digits.proofs.Digits.{one_here, one_other}
use Rattle.discovery.specs.Model.{State, state, discover, seed}
use Rattle.discovery.specs.States.{Fits, Good, Asks}
use Rattle.discovery.specs.Tried.{tried}
use Rattle.discovery.specs.Short.{fore, strung, note, noted, Notes, Room}
use Rattle.discovery.proofs.Model.{discover_new, discover_old, seed_none, seed_some}
use Rattle.discovery.proofs.States.{discovers, count_room, depth_room}

-- whether the queue is short, of the bits of the const parameter that says it
abbrev pub is_short : ℕ → Bool
is_short b = not (eqb b 0)

-- ---- the front

length_fore : (n : ℕ) (l : List ℕ) → length (fore n l) ≡ length l
unfolding fore
length_fore n l = length-append (take n l) (zeros (length l - n)) ∙ ap₂ (λ (a b : ℕ). a + b) (length-take n l) (length_zeros (length l - n)) ∙ omega arith

module _ (n : ℕ) (l : List ℕ) (h : n ≤ length l) where
  get_or_fore : (i : ℕ) → i < n → get_or (fore n l) i 0 ≡ get_or l i 0
  unfolding fore
  get_or_fore i b =
      get_or-append (take n l) (zeros (length l - n)) 0 i (omega (arith, length-take-le n l h)) ∙ get_or-take n l i 0 b

  fore_set : (i v : ℕ) → i < n → fore n (set l i v) ≡ set (fore n l) i v
  unfolding fore
  fore_set i v b =
      ap₂ (λ (a : List ℕ) (k : ℕ). a ++ zeros (k - n)) (take-set-lt n l i v b) (length-set l i v)
      ∙ sym (set-append_left (take n l) (zeros (length l - n)) i v (omega (arith, length-take-le n l h)))

fore_behind : (n : ℕ) (l : List ℕ) (i v : ℕ) → n ≤ i → fore n (set l i v) ≡ fore n l
unfolding fore
fore_behind n l i v b = ap₂ (λ (a : List ℕ) (k : ℕ). a ++ zeros (k - n)) (take-set-le n l i v b) (length-set l i v)

fore_put : (n : ℕ) (l : List ℕ) (c x : ℕ) → n ≤ length l → 4 * c + 4 ≤ n → fore n (put l c x) ≡ put (fore n l) c x
unfolding put
fore_put n l c x h b =
    let l₁ = set l (4 * c) (x % 256) in
    let l₂ = set l₁ (4 * c + 1) (x / 256 % 256) in
    let l₃ = set l₂ (4 * c + 2) (x / 65536 % 256) in
    let h₁ : n ≤ length l₁ = omega (arith, length-set l (4 * c) (x % 256)) in
    let h₂ : n ≤ length l₂ = omega (arith, length-set l₁ (4 * c + 1) (x / 256 % 256)) in
    let h₃ : n ≤ length l₃ = omega (arith, length-set l₂ (4 * c + 2) (x / 65536 % 256)) in
    fore_set n l₃ h₃ (4 * c + 3) (x / 16777216 % 256) (omega arith)
    ∙ ap (λ (a : List ℕ). set a (4 * c + 3) (x / 16777216 % 256))
    (fore_set n l₂ h₂ (4 * c + 2) (x / 65536 % 256) (omega arith)
    ∙ ap (λ (a : List ℕ). set a (4 * c + 2) (x / 65536 % 256))
    (fore_set n l₁ h₁ (4 * c + 1) (x / 256 % 256) (omega arith)
    ∙ ap (λ (a : List ℕ). set a (4 * c + 1) (x / 256 % 256)) (fore_set n l h (4 * c) (x % 256) (omega arith))))

take_zeros : (n k : ℕ) → n ≤ k → take {A = ℕ} n (replicate k 0) ≡ replicate n 0
take_zeros zero k h = refl
take_zeros (suc n) zero h = absurd (not-suc-le-zero h)
take_zeros (suc n) (suc k) h = ap (λ (r : List ℕ). 0 ∷ r) (take_zeros n k (le_of_suc-le-suc h))

fore_zeros : (n k : ℕ) → n ≤ k → fore n (zeros k) ≡ zeros k
unfolding fore zeros
fore_zeros n k h =
    let z : length {A = ℕ} (replicate k 0) - n ≡ k - n = ap (λ (m : ℕ). m - n) (length-replicate k 0) in
    let e : n + (k - n) ≡ k = omega arith in
    ap₂ (λ (a b : List ℕ). a ++ b) (take_zeros n k h) (ap (λ (m : ℕ). replicate m 0) z)
    ∙ replicate-append-replicate n (k - n) 0
    ∙ ap (λ (m : ℕ). replicate m 0) e

get_or_behind : (l : List ℕ) (c x i : ℕ) → 4 * c + 4 ≤ i → get_or (put l c x) i 0 ≡ get_or l i 0
unfolding put
get_or_behind l c x i h =
    let l₁ = set l (4 * c) (x % 256) in
    let l₂ = set l₁ (4 * c + 1) (x / 256 % 256) in
    let l₃ = set l₂ (4 * c + 2) (x / 65536 % 256) in
    get_or-set_other l₃ (4 * c + 3) i (x / 16777216 % 256) 0 (λ z. omega arith)
    ∙ get_or-set_other l₂ (4 * c + 2) i (x / 65536 % 256) 0 (λ z. omega arith)
    ∙ get_or-set_other l₁ (4 * c + 1) i (x / 256 % 256) 0 (λ z. omega arith)
    ∙ get_or-set_other l (4 * c) i (x % 256) 0 (λ z. omega arith)

-- ---- the strings

pub length_strung : (short : Bool) (l : List ℕ) → length (strung short l) ≡ length l
length_strung true l = length_fore 65011712 l
length_strung false l = refl

pub strung_put : (short : Bool) (l : List ℕ) (c x : ℕ) → 65011712 ≤ length l → Room short c 1 → strung short (put l c x) ≡ put (strung short l) c x
strung_put true l c x h r = fore_put 65011712 l c x h (omega (arith, r refl))
strung_put false l c x h r = refl

pub strung_entry : (short : Bool) (l : List ℕ) (c i : ℕ) → 65011712 ≤ length l → Room short c 0 → i < c → entry (strung short l) i ≡ entry l i
unfolding entry
strung_entry true l c i h r b =
    let k : 4 * i + 4 ≤ 65011712 = omega (arith, r refl) in
    let e : (j : ℕ) → j < 65011712 → get_or (fore 65011712 l) j 0 ≡ get_or l j 0 = get_or_fore 65011712 l h in
    rw (e (4 * i) (omega arith), e (4 * i + 1) (omega arith), e (4 * i + 2) (omega arith), e (4 * i + 3) (omega arith))
strung_entry false l c i h r b = refl

pub strung_zeros : (k : ℕ) → 65011712 ≤ k → strung true (zeros k) ≡ zeros k
strung_zeros k h = fore_zeros 65011712 k h

pub strung_noted : (short : Bool) (l : List ℕ) (x : ℕ) → strung short (noted short l x) ≡ strung short l
strung_noted true l x = fore_behind 65011712 l ((520093696 + x) / 8) (set_bit (get_or l ((520093696 + x) / 8) 0) ((520093696 + x) % 8) 1) (omega arith)
strung_noted false l x = refl

-- ---- the digits

-- a queue that is not short has no digits
pub notes_long : (q : ℕ) (l t : List ℕ) → Notes false q l t
notes_long q l t s = absurd (subst T (sym s) tt)

-- a string that gets an entry gets its digit
notes_more : (q : ℕ) (l t t' : List ℕ) (x : ℕ) → (520093696 + x) / 8 < length l → Has (entry t') x → ((y : ℕ) → (y ≡ x → ⊥) → entry t' y ≡ entry t y)
    → ((y : ℕ) → y < 4 ^ q → (y ≡ x → ⊥) → (note l y ≡ 1 → Has (entry t) y) × ((note l y ≡ 1 → ⊥) → entry t y ≡ 0)) → Notes true q (one l (520093696 + x)) t'
notes_more q l t t' x b g keeps h s y c = elim (ℕ_discrete y x) [
  | yes e ↦ (λ d. subst (Has (entry t')) (sym e) g, λ d. absurd (d (ap (note (one l (520093696 + x))) e ∙ one_here l (520093696 + x) b)))
  | no f ↦
      let o : note (one l (520093696 + x)) y ≡ note l y = one_other l (520093696 + x) b (520093696 + y) (λ z. f (omega arith)) in (
        λ d z. (h y c f).0 (sym o ∙ d) (sym (keeps y f) ∙ z),
        λ d. keeps y f ∙ (h y c f).1 (λ z. d (o ∙ z)),
      )
]

note_put : (l : List ℕ) (c v x : ℕ) → 4 * c + 4 ≤ 65011712 → note (put l c v) x ≡ note l x
note_put l c v x h = ap (λ (b : ℕ). bit b ((520093696 + x) % 8)) (get_or_behind l c v ((520093696 + x) / 8) (omega arith))

notes_found : (short : Bool) (q : ℕ) (l t t' : List ℕ) (c x : ℕ) → (520093696 + x) / 8 < length l → Room short c 1 → Has (entry t') x
    → ((y : ℕ) → (y ≡ x → ⊥) → entry t' y ≡ entry t y) → Notes short q l t → Notes short q (noted short (put l c x) x) t'
notes_found true q l t t' c x b r g keeps h =
    notes_more q (put l c x) t t' x (subst (λ (n : ℕ). (520093696 + x) / 8 < n) (sym (length_put l c x)) b) g keeps
    (λ y k f. let o : note (put l c x) y ≡ note l y = note_put l c x y (omega (arith, r refl)) in (λ d. (h refl y k).0 (sym o ∙ d), λ d. (h refl y k).1 (λ z. d (o ∙ z))))
notes_found false q l t t' c x b r g keeps h = notes_long q (put l c x) t'

note_zeros : (k x : ℕ) → note (zeros k) x ≡ 1 → ⊥
unfolding bit
note_zeros k x d =
    omega (
      arith,
      ap (λ (v : ℕ). bit v ((520093696 + x) % 8)) (get_or_zeros k ((520093696 + x) / 8)),
      zero-div (2 ^ ((520093696 + x) % 8)),
    )

-- at the beginning string 0 has an entry, and no other
pub notes_begun : (q k : ℕ) → 65011712 < k → Notes true q (noted true (zeros k) 0) (put (zeros k) 0 identity)
notes_begun q k h =
    let l = length_zeros k in
    notes_more q (zeros k) (zeros k) (put (zeros k) 0 identity) 0 (omega arith)
    (λ z. omega (arith, entry_put_same (zeros k) 0 identity (omega arith) (lit< tt)))
    (λ y f. entry_put_other (zeros k) 0 identity y f)
    (λ y b f. (λ d. absurd (note_zeros k y d), λ d. entry_zeros k y))

-- ---- the room

pub room_less : (short : Bool) (c d j k : ℕ) → Room short c k → d + j ≤ c + k → Room short d j
room_less short c d j k h l s = omega (arith, h s)

-- ---- one discovery

module _ (short : Bool) (q : ℕ) (F : Fits q) (t l : List ℕ) (c x d n : ℕ) (g : Good q (state t (strung short l) c)) (a : Asks q (state t (strung short l) c) x d n) where
  -- the queue has its length with and without digits
  pub queue_long : length l ≡ table_length q
  queue_long = sym (length_strung short l) ∙ g.queue_long

  -- for a string without an entry there is room in the queue, and for the depth
  pub rooms : entry t x ≡ 0 → (c + 1 < 4 ^ q) × (d < 4 ^ (q - 1))
  rooms z = (count_room q F (state t (strung short l) c) g x d n a z, depth_room q F (state t (strung short l) c) g x d n a z)

  -- nothing changes for another
  pub found_old : (entry t x ≡ 0 → ⊥) → state t (strung short l) c ≡ discover x (value d n) (state t (strung short l) c)
  found_old h = sym (discover_old (state t (strung short l) c) x (value d n) h)

  pub found_new : (T L : List ℕ) → (520093696 + x) / 8 < length l → Room short c 1 → Notes short q l t → entry t x ≡ 0 → T ≡ put t x (value d n) → L ≡ noted short (put l c x) x
      → (state T (strung short L) (c + 1) ≡ discover x (value d n) (state t (strung short l) c)) × Notes short q L T
  found_new T L h r N z eT eL =
      let v = value d n in
      let here : entry (put t x v) x ≡ v = (discovers q F (state t (strung short l) c) g x d n a z).here in (
        ap₂ (λ (T L : List ℕ). state T (strung short L) (c + 1)) eT eL
            ∙ ap (λ (l : List ℕ). state (put t x v) l (c + 1)) (strung_noted short (put l c x) x ∙ strung_put short l c x (omega arith) r)
            ∙ sym (discover_new (state t (strung short l) c) x v z),
        subst (λ (T : List ℕ). Notes short q L T) (sym eT)
            (subst (λ (L : List ℕ). Notes short q L (put t x v)) (sym eL)
            (notes_found short q l t (put t x v) c x h r (λ e. value_some d n (sym here ∙ e)) (λ y f. entry_put_other t x v y f) N)),
      )

-- discoveries in turn are at most as many as are tried
discover_count : (x v : ℕ) (s : State) → (discover x v s).count ≤ s.count + 1
discover_count x v s = elim (ℕ_discrete (entry s.table x) 0) [
  | yes z ↦ omega (arith, ap (λ (s : State). s.count) (discover_new s x v z))
  | no f ↦ omega (arith, ap (λ (s : State). s.count) (discover_old s x v f))
]

pub seed_count : (f : ℕ → ℕ) (n : ℕ) (s : State) → (seed f n s).count ≤ s.count + 1
seed_count f n s = elim (ℕ_discrete (f n) 0) [
  | yes z ↦ omega (arith, ap (λ (s : State). s.count) (seed_none f n s z))
  | no g ↦ omega (arith, ap (λ (s : State). s.count) (seed_some f n s g), discover_count (f n) (value 0 (kept_for f (f n))) s)
]

pub tried_count : (x m : ℕ → ℕ) (d k : ℕ) (s : State) → (in_turn k (tried x m d) s).count ≤ s.count + k
unfolding in_turn
tried_count x m d zero s = omega arith
tried_count x m d (suc k) s = omega (arith, tried_count x m d k s, discover_count (x k) (value d (m k)) (in_turn k (tried x m d) s))
