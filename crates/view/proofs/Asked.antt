-- A read of the view is one call on the slice held, and answers what is called answers: one law for the reads at a string and one for the reads of the whole table.
-- Each is a walk of the read's MIR, over the name and the contract of what is called: what the view owns is what its slice owns, and goes to the callee. All that is known of the callee is that it meets its contract.
-- No function cites them: Rattle proves each of the six reads by itself, at the one call that it makes. The laws say it of every callee with such
-- a contract, in every environment.
-- Assumes nothing.
use mathlib.Core.Path.{◌≡◌, refl}
use Prim.Native.Nat.{ℕ}
use mathlib.Core.List.{List, [], ◌∷◌}
use lib.Dec.{T as Holds}
use seplogic.Ra.Ura.{Ura}
use mir.Syntax.{Callee, Ty, Fn, Local, named, erased, imm, ty_ref, ty_int, ty_struct, tcons, tnil, w8, w64, local, value_local, seq, assign, call, return, rv_opd, copy, place, field}
use mir.Val.{WT, has_ty}
use prog.Model.{Model}
use prog.Routine.{Routine, Env}
use prog.Wp.{Calls, Loops, Closed}
use contract.Running.{Running, tables}
use types.Logic.{Logic}
use types.Kit.{‵, ◌$◌, ◌∵◌, !, qed, by, move, use1, fsplit, fjoin}
use types.Part.{whole, sub, look_in}
use types.Run.{look, init, forget, stop, fld, from, load, of_opd, and_then, no_more, assigns, land, returns, enter, alloc1, alloc0, params1, pass1, pass0, free1, free0}
use denote.RattleType.{owns}
use denote.Struct.Laws.{vals, tells}
use denote.Triple.Statement.{Triple}
use denote.Triple.Table.{cited}
use Rattle.pauli_string.specs.declared.PauliString.{PauliString}
use Rattle.pauli_string.specs.contracts.PauliString as P
use Rattle.pauli_string.proofs.PauliString.TheLaws as P'
use Rattle.view.specs.declared.MeasurementTable.{MeasurementTable}
use Rattle.view.specs.contracts.MeasurementTable as T
use Rattle.view.proofs.MeasurementTable.TheLaws as T'
use Rattle.view.proofs.Stated.{Claim, rows, token, Stated, ends, proved, calls}
use Rattle.view.proofs.Held.{Kind, string, view, at, held, slice, asked, part, opened}

-- a slice in a local
abbrev sliced : Local
sliced = local (ty_struct (38 ∷ 91 ∷ 93 ∷ []) (tcons (ty_ref erased imm (ty_int w8)) (tcons (ty_int w64) tnil))) value_local

-- ---- the reads at a string: what is called, the read, and its code
module _ (α : Kind) (found : List ℕ → ℕ → α.row.Denot) where
  abbrev at_slice : Claim
  at_slice = record { takes = slice ∷ asked ∷ []; gives = λ _. α.row; says = λ κs a r. r ≡ found a.0.now a.1.0.0 }

  abbrev pub at_view : Claim
  at_view = record { takes = held ∷ asked ∷ []; gives = λ _. α.row; says = λ κs a r. r ≡ found a.0.table.now a.1.0.0 }

abbrev code_at : Callee → Ty → Fn
code_at f τ = record {
  lifetimes = 1;
  outlives = [];
  ty_params = [];
  givens = 0;
  params = 2;
  locals = local τ value_local ∷ local (T'.mir (named 0)) value_local ∷ local P'.mir value_local ∷ sliced ∷ [];
  body = seq (assign (place 3 []) (rv_opd (copy (place 1 (field 0 ∷ []))))) (seq (call f (copy (place 3 []) ∷ copy (place 2 []) ∷ []) (place 0 [])) return);
}

-- ---- the reads of the whole table
module _ (α : Kind) (found : List ℕ → α.row.Denot) where
  abbrev of_slice : Claim
  of_slice = record { takes = slice ∷ []; gives = λ _. α.row; says = λ κs a r. r ≡ found a.0.now }

  abbrev of_view : Claim
  of_view = record { takes = held ∷ []; gives = λ _. α.row; says = λ κs a r. r ≡ found a.0.table.now }

abbrev code : Callee → Ty → Fn
code f τ = record {
  lifetimes = 1;
  outlives = [];
  ty_params = [];
  givens = 0;
  params = 1;
  locals = local τ value_local ∷ local (T'.mir (named 0)) value_local ∷ sliced ∷ [];
  body = seq (assign (place 2 []) (rv_opd (copy (place 1 (field 0 ∷ []))))) (seq (call f (copy (place 2 []) ∷ []) (place 0 [])) return);
}

-- ---- the laws: the read that γ calls k calls f, which means the routine g
module _ {M : Type 1} {𝓤 : Ura M} (𝓛 : Logic 𝓤) (𝓜 : Model 𝓤 𝓛.H) (𝓡 : Running 𝓤 𝓛.H 𝓜) (α : Kind) where
  open 𝓛 use {H}

  module _ (γ : Env) (k f : Callee) (g : Routine) (names : γ f ≡ g) where
    abbrev C : Calls 𝓤 H
    C = (tables 𝓤 H 𝓜 𝓡 γ).C

    abbrev Λ : Loops 𝓤 H
    Λ = (tables 𝓤 H 𝓜 𝓡 γ).Λ

    pub read_at : Closed 𝓤 H C Λ k (code_at f α.mir) → (found : List ℕ → ℕ → α.row.Denot) → Triple 𝓤 (𝓡.run g) (Stated (at_slice α found) 𝓤 𝓛) → Triple 𝓤 (𝓡.run (γ k)) (Stated (at_view α found) 𝓤 𝓛)
    read_at closed found met =
        proved (at_view α found) 𝓛 𝓜 𝓡 γ k (code_at f α.mir) closed (λ κs. (vals (T.the_type (at κs.0)) (T'.the_laws (at κs.0)), (vals P.the_type P'.the_laws, tt))) (λ κs. (tells (T.the_type (at κs.0)) (T'.the_laws (at κs.0)), (tells P.the_type P'.the_laws, tt))) (λ fm κ q a are.
        let d : MeasurementTable = a.0 in
        let p : PauliString = a.1.0 in
        let wt : Holds (has_ty (T'.mir (named 0)) (T'.lowered d)) × WT (T'.lowered d) = (view (at κ)).typed 𝓛 d (T'.lowered d) are.0 in
        qed 𝓛 (token κ q ∷ ‵ (owns (rows (at_view α found) κ) a (T'.lowered d ∷ [], (P'.lowered p ∷ [], tt))) ∷ []) ∵ enter ! C Λ (code_at f α.mir) (T'.lowered d ∷ P'.lowered p ∷ []) _ $
        alloc1 ! (λ l₀. alloc1 ! (λ l₁. alloc1 ! (λ l₂. alloc1 ! (λ l₃. alloc0 ! $ params1 ! $ pass1 ! (init ! 4 refl wt) $ pass1 ! (init ! 2 refl (string.typed 𝓛 p (P'.lowered p) are.1.0)) $ pass0 ! $
        assigns ! (of_opd ! (load ! (from ! (fld ! refl (stop !))) (look_in ! 4 (sub ! 0 refl (whole !))))) (from ! (stop !)) (init ! 0 refl (tt, wt.1.0)) $
        -- [_3; …; _2; …; _1; …; room for _0; …; the token; what the parameters own]
        move ! (9 ∷ []) $ fsplit ! $ use1 𝓛 (‵ ((slice.row (κ, tt)).own_val d.table (part d ∷ []))) (opened 𝓛 κ d) $ fjoin ! $ move ! (9 ∷ 0 ∷ []) $
        calls (at_slice α found) ! fm (cited 𝓤 H (Stated (at_slice α found) 𝓤 𝓛) 𝓜 𝓡 γ f g names met) κ q (d.table, (p, tt)) (part d ∷ [], (P'.lowered p ∷ [], tt))
        (and_then ! (load ! (from ! (stop !)) (look ! 1 refl)) (and_then ! (load ! (from ! (stop !)) (look ! 3 refl)) (no_more !))) (λ r u e is.
        -- [the result; the token; _3; …; _2; …; _1; …; room for _0; …]
        land ! (from ! (stop !)) (init ! 8 refl (α.typed 𝓛 r u is)) $ returns ! (look ! 8 refl) $ forget ! 2 refl $ forget ! 4 refl $ forget ! 6 refl $ forget ! 8 refl $
        move ! (8 ∷ 9 ∷ []) $ free1 ! $ move ! (6 ∷ 7 ∷ []) $ free1 ! $ move ! (4 ∷ 5 ∷ []) $ free1 ! $ move ! (2 ∷ 3 ∷ []) $ free1 ! $ free0 ! $
        by ! (ends (at_view α found) ((λ κs x. (tt, refl)), ((λ κs x. (tt, refl)), tt)) 𝓛 κ q a (T'.lowered d ∷ [], (P'.lowered p ∷ [], tt)) r u e)))))))

    pub read : Closed 𝓤 H C Λ k (code f α.mir) → (found : List ℕ → α.row.Denot) → Triple 𝓤 (𝓡.run g) (Stated (of_slice α found) 𝓤 𝓛) → Triple 𝓤 (𝓡.run (γ k)) (Stated (of_view α found) 𝓤 𝓛)
    read closed found met =
        proved (of_view α found) 𝓛 𝓜 𝓡 γ k (code f α.mir) closed (λ κs. (vals (T.the_type (at κs.0)) (T'.the_laws (at κs.0)), tt)) (λ κs. (tells (T.the_type (at κs.0)) (T'.the_laws (at κs.0)), tt)) (λ fm κ q a are.
        let d : MeasurementTable = a.0 in
        let wt : Holds (has_ty (T'.mir (named 0)) (T'.lowered d)) × WT (T'.lowered d) = (view (at κ)).typed 𝓛 d (T'.lowered d) are.0 in
        qed 𝓛 (token κ q ∷ ‵ (owns (rows (of_view α found) κ) a (T'.lowered d ∷ [], tt)) ∷ []) ∵ enter ! C Λ (code f α.mir) (T'.lowered d ∷ []) _ $
        alloc1 ! (λ l₀. alloc1 ! (λ l₁. alloc1 ! (λ l₂. alloc0 ! $ params1 ! $ pass1 ! (init ! 2 refl wt) $ pass0 ! $
        assigns ! (of_opd ! (load ! (from ! (fld ! refl (stop !))) (look_in ! 2 (sub ! 0 refl (whole !))))) (from ! (stop !)) (init ! 0 refl (tt, wt.1.0)) $
        -- [_2; …; _1; …; room for _0; …; the token; what the parameter owns]
        move ! (7 ∷ []) $ fsplit ! $ use1 𝓛 (‵ ((slice.row (κ, tt)).own_val d.table (part d ∷ []))) (opened 𝓛 κ d) $ fjoin ! $ move ! (7 ∷ 0 ∷ []) $
        calls (of_slice α found) ! fm (cited 𝓤 H (Stated (of_slice α found) 𝓤 𝓛) 𝓜 𝓡 γ f g names met) κ q (d.table, tt) (part d ∷ [], tt) (and_then ! (load ! (from ! (stop !)) (look ! 1 refl)) (no_more !)) (λ r u e is.
        -- [the result; the token; _2; …; _1; …; room for _0; …]
        land ! (from ! (stop !)) (init ! 6 refl (α.typed 𝓛 r u is)) $ returns ! (look ! 6 refl) $ forget ! 2 refl $ forget ! 4 refl $ forget ! 6 refl $
        move ! (6 ∷ 7 ∷ []) $ free1 ! $ move ! (4 ∷ 5 ∷ []) $ free1 ! $ move ! (2 ∷ 3 ∷ []) $ free1 ! $ free0 ! $ by ! (ends (of_view α found) ((λ κs x. (tt, refl)), tt) 𝓛 κ q a (T'.lowered d ∷ [], tt) r u e))))))
