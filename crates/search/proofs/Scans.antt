-- The queue, taken place by place with idle turns skipped, comes to the model's state, in one go or in two. Assumes nothing.
use mathlib.Core.Path.{◌≡◌, refl, sym, ap, subst, ◌∙◌}
use mathlib.Core.Bool.{Bool, false}
use mathlib.Core.List.{List}
use Prim.Native.Nat.{ℕ, zero, suc, ◌+◌, ◌-◌, ◌^◌, ◌≤◌, ◌<◌}
use native.Mathlib.Omega.{arith}
use Rattle.bicycle_common.specs.Ranges.{in_turn}
use Rattle.bicycle_common.proofs.Ranges.{in_turn_next}
use Rattle.pauli_string.specs.Strings.{rotate}
use Rattle.native_measurement.specs.Natives.{natives}
use Rattle.natives.specs.Arrays.{at}
use Rattle.table.specs.Bytes.{entry}
use Rattle.table.specs.Entries.{depth}
use Rattle.rotations.specs.Packed.{Blanked, Packed}
use Rattle.digits.specs.Filter.{Covers}
use Rattle.discovery.specs.Model.{State, attempt, expand}
use Rattle.discovery.specs.States.{Fits, Good, Moving}
use Rattle.discovery.proofs.Model.{expand_turn, expand_idle}
use Rattle.discovery.proofs.States.{tried_asks, moving_asks, rotate_beside, listed_moving, count_below}
use Rattle.search.specs.Turns.{packed_tried}
use Rattle.search.specs.Scans.{Reaches}
use Rattle.search.proofs.Turns.{packed_same}
use Rattle.search.proofs.Idle.{covers_turn}

-- behind the count nothing is done
expand_stalls : (q : ℕ) (f : ℕ → ℕ) (s : State) (i k : ℕ) → (in_turn i (expand q f) s).count ≤ i
    → in_turn (k + i) (expand q f) s ≡ in_turn i (expand q f) s
unfolding in_turn
expand_stalls q f s i zero h = let z : 0 + i ≡ i = omega arith in ap (λ (n : ℕ). in_turn n (expand q f) s) z
expand_stalls q f s i (suc k) h =
    let e : in_turn (k + i) (expand q f) s ≡ in_turn i (expand q f) s = expand_stalls q f s i k h in
    let z : suc k + i ≡ suc (k + i) = omega arith in
    ap (λ (n : ℕ). in_turn n (expand q f) s) z
    ∙ expand_idle q f (k + i) (in_turn (k + i) (expand q f) s) (omega (arith, ap (λ (s : State). s.count) e))
    ∙ e

-- the turn of a place is that of the packed rotations
turn_packed : (q : ℕ) (F : Fits q) (f : ℕ → ℕ) (rs ns : List ℕ) (m i p : ℕ) (s : State) → Packed q f rs ns m natives → i < s.count → p ≡ entry s.queue i
    → in_turn m (packed_tried q rs ns p (depth (entry s.table p) + 1)) s ≡ expand q f i s
turn_packed q F f rs ns m i p s h l z =
    packed_same q F f rs ns m natives p (depth (entry s.table p) + 1) s h
    ∙ ap (λ (p : ℕ). in_turn natives (attempt q f p (depth (entry s.table p) + 1)) s) z
    ∙ sym (expand_turn q f i s l)

turn_good : (q : ℕ) (F : Fits q) (rs ns : List ℕ) (m p d : ℕ) (s : State) → Blanked q rs ns m → Moving q p d s
    → Good q (in_turn m (packed_tried q rs ns p d) s)
turn_good q F rs ns m p d s r t =
    (tried_asks q F (λ (i : ℕ). rotate q p (at rs i)) (at ns) d m s t.good
    (λ i l. moving_asks q F p d (rotate q p (at rs i)) (at ns i) s (rotate_beside q F p (at rs i) (at ns i) t.small (r.small i) (r.native_below i)) t)
    ).0

-- before place i of the scan that began at place k with state b: the state is the model's, for whatever natives the rotations were packed of
pub record Scanned (q : ℕ) (rs ns : List ℕ) (m k : ℕ) (b : State) (filter : List ℕ) (s : State) (i : ℕ) : Type 0 where
  pub place : i ≤ 4 ^ q
  pub covers : Covers q rs m filter s.table
  pub good : Good q s
  pub same : (f : ℕ → ℕ) (o : State) → Packed q f rs ns m natives → b ≡ in_turn k (expand q f) o → s ≡ in_turn i (expand q f) o

module _ (q : ℕ) (F : Fits q) (rs ns : List ℕ) (m k : ℕ) (b : State) (filter : List ℕ) (s : State) (i : ℕ) (h : Scanned q rs ns m k b filter s i) where
  pub scan_next : (filter' : List ℕ) (w : State) (p : ℕ) → Blanked q rs ns m → i < s.count → p ≡ entry s.queue i → Covers q rs m filter' s.table
      → w ≡ in_turn m (packed_tried q rs ns p (depth (entry s.table p) + 1)) s → Scanned q rs ns m k b filter' w (i + 1)
  scan_next filter' w p r l zp hc z = record {
    place = omega (arith, count_below q s h.good);
    covers = covers_turn q rs ns m filter' p (depth (entry s.table p) + 1) s w z hc;
    good =
        subst (Good q) (sym z) (turn_good q F rs ns m p (depth (entry s.table p) + 1) s r (listed_moving q s i p h.good l zp));
    same = λ f o c e.
        z ∙ turn_packed q F f rs ns m i p s c l zp ∙ ap (expand q f i) (h.same f o c e) ∙ sym (in_turn_next i (expand q f) o);
  }

  pub scan_reaches : (short : Bool) → (short ≡ false → s.count ≤ i) → Reaches q short rs ns m k b i s
  scan_reaches short l = record { place = h.place; good = h.good; ended = l; same = h.same }

-- a scan up to the end comes to what all places come to
pub reaches_all : (q : ℕ) (rs ns : List ℕ) (m k : ℕ) (b : State) (i : ℕ) (s : State) → Reaches q false rs ns m k b i s → (f : ℕ → ℕ) (o : State)
    → Packed q f rs ns m natives → b ≡ in_turn k (expand q f) o → s ≡ in_turn (4 ^ q) (expand q f) o
reaches_all q rs ns m k b i s h f o c e =
    let l : (in_turn i (expand q f) o).count ≤ i = subst (λ (s : State). s.count ≤ i) (h.same f o c e) (h.ended refl) in
    let z : (4 ^ q - i) + i ≡ 4 ^ q = omega (arith, h.place) in
    h.same f o c e ∙ sym (expand_stalls q f o i (4 ^ q - i) l) ∙ ap (λ (n : ℕ). in_turn n (expand q f) o) z
