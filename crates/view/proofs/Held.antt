-- What the functions over the view take and give: a view, the slice that it holds, a string, a number, a truth; and that what a view owns is what its slice owns.
-- The laws of `Asked.antt` are over these: Rattle proves the functions of this crate by itself.
-- Assumes nothing.
use mathlib.Core.Path.{◌≡◌, refl}
use mathlib.Core.List.{[], ◌∷◌}
use lib.Dec.{T as Holds}
use lib.ListN.{length}
use seplogic.Ra.Ura.{Ura}
use mir.Syntax.{Ty}
use mir.Val.{Val, WT, has_ty}
use base.Logic.{ent}
use base.Fml.{Lft}
use types.Logic.{Logic, sem}
use types.Kit.{‵, given, ◌$◌, ◌∵◌, !, qed, move, drop, use1, learn, fsplit, done}
use denote.RattleType.{RattleType}
use denote.Laws.{Is}
use denote.Builtin.{u8, u32, bool, SliceRefOf}
use denote.Param.{layout}
use denote.Param.Laws.{Laws, of_field}
use denote.Param.Shared.{copy_shared}
use denote.Struct.Field.{u32-field, bool-field}
use denote.Struct.Laws.{u32-laws, u32-copy, bool-laws, bool-copy}
use denote.Ref.{NamedLft}
use denote.Signature.{Slot, plain, named_lft}
use denote.Slice.{slice_val}
use denote.Struct.Laws as LL
use denote.Struct.Rest.{all_own, own_open}
use Rattle.std.specs.contracts.result.Result.{the_row as ResultOf}
use Rattle.std.proofs.result.Result.TheLaws as R'
use Rattle.bicycle_common.specs.contracts.Refusal as F
use Rattle.bicycle_common.proofs.Refusal.TheLaws as F'
use Rattle.pauli_string.specs.contracts.PauliString as P
use Rattle.pauli_string.proofs.PauliString.TheLaws as P'
use Rattle.view.specs.declared.MeasurementTable.{MeasurementTable}
use Rattle.view.specs.contracts.MeasurementTable as T
use Rattle.view.proofs.MeasurementTable.TheLaws as T'
use Rattle.view.proofs.Stated.{Claim}

-- a type, its type of MIR, and that what is owned at the one has the other
pub record Kind : Type 2 where
  pub row : RattleType
  pub mir : Ty
  pub typed : {M : Type 1} {𝓤 : Ura M} (𝓛 : Logic 𝓤) (x : row.Denot) (u : Val) → Is row x (u ∷ []) → Holds (has_ty mir u) × WT u

-- a value of a type, or a refusal
abbrev answer : (row : RattleType) → Laws row → Kind
answer row laws =
    let r : Laws (ResultOf row F.the_row) = R'.the_row_laws row F.the_row laws F'.the_row_laws in
    record { row = ResultOf row F.the_row; mir = layout (ResultOf row F.the_row); typed = λ 𝓛 x u is. ((r.lawful 𝓛).typed x (u ∷ []) is).0 }

abbrev pub number : Kind
number = answer u32 (of_field u32-field u32-laws refl (copy_shared u32-field u32-copy))

abbrev pub truth : Kind
truth = answer bool (of_field bool-field bool-laws refl (copy_shared bool-field bool-copy))

abbrev pub string : Kind
string = record { row = P.the_row; mir = P'.mir; typed = λ 𝓛 x u is. ((LL.lawful P.the_type P'.the_laws 𝓛).typed x (u ∷ []) is).0 }

abbrev pub view : NamedLft → Kind
view α = record { row = T.the_row α; mir = T'.mir α.mir; typed = λ 𝓛 x u is. ((LL.lawful (T.the_type α) (T'.the_laws α) 𝓛).typed x (u ∷ []) is).0 }

-- ---- as parameters, at the one lifetime of a signature
abbrev pub at : Lft → NamedLft
at κ = named_lft 1 0 tt (κ, tt)

abbrev pub held : Slot 1
held = plain (λ κs. (view (at κs.0)).row)

abbrev pub slice : Slot 1
slice = SliceRefOf (0 ∷ []) tt (plain (λ _. u8)) (λ _. tt)

abbrev pub asked : Slot 1
asked = plain (λ _. string.row)

-- ---- a view is made of a slice, and owns what it owns
abbrev pub made : Claim
made = record { takes = slice ∷ []; gives = held.row; says = λ κs a r. r.table ≡ a.0 }

abbrev pub part : MeasurementTable → Val
part d = slice_val d.table.ref_ptr (length d.table.now)

module _ {M : Type 1} {𝓤 : Ura M} (𝓛 : Logic 𝓤) (κ : Lft) (d : MeasurementTable) where
  pub opened : ent 𝓤 (sem 𝓛 ((held.row (κ, tt)).own_val d (T'.lowered d ∷ []))) (sem 𝓛 ((slice.row (κ, tt)).own_val d.table (part d ∷ [])))
  opened = qed 𝓛 (‵ ((held.row (κ, tt)).own_val d (T'.lowered d ∷ [])) ∷ []) ∵ use1 𝓛 (given (T'.lowered d ∷ [] ≡ T'.lowered d ∷ []) (‵ (all_own (T.the_type (at κ)).parts (T'.the_laws (at κ)) (d.table, tt)))) (own_open 𝓛 (T.the_type (at κ)) (T'.the_laws (at κ)) (d.table, tt) (T'.lowered d)) $
      learn ! (λ _. fsplit ! $ move ! (1 ∷ []) $ drop ! $ done !)
