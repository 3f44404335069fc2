-- A function of one lifetime that asks nothing and states a fact of its parameters and its result, where nothing is bound of a parameter at exit.
-- What is the same in every walk of such a function stands here: its contract, how its code is entered and left, and how it is called.
-- The laws of `Asked.antt` are over it: Rattle proves the functions of this crate by itself.
-- Assumes nothing.
use mathlib.Core.Path.{◌≡◌, sym, subst}
use mathlib.Core.List.{List, [], ◌∷◌}
use seplogic.Ra.Ura.{Ura}
use mir.Syntax.{Callee, Fn, Place, Opd as Operand, Body, seq, call}
use mir.Val.{Val}
use base.Logic.{SProp, ent, emp, ex, sep, via, fst∗, snd∗, ex_e, ex_i, id⊢}
use base.Fml.{Lft, Share, Fml, ftrue, fsep, flft}
use prog.Model.{Model}
use prog.Routine.{Env as Names}
use prog.Wp.{Env, Calls, Loops, WpFn, Closed}
use types.Logic.{Logic, sem}
use contract.Lifetimes.{Lfts}
use contract.Monad.{fact, fact_i}
use contract.Running.{Running, tables, tables_of}
use types.Kit.{Item, Post, Seq, runs, lands, ‵, raw, ◌⊛◌, ⋆, some, later, ◌$◌, ◌∵◌, !, qed, move, use0, use1, use2, split, join, pick, fjoin, suffices, frame, await, done}
use types.Run.{Opds}
use sound.WpLaws.{FmC, fm_of}
use denote.RattleType.{RattleType, Denots, Valss, flat, owns}
use denote.Laws.{Is, Ises, Are, Spells, Tellss, valss, shows}
use denote.Signature.{Slot, plain, types_at}
use denote.Steps.{said, peeks, heard}
use denote.Exit.{yes, Last, left}
use denote.Triple.End.{all, Fins, lasts_of}
use denote.Triple.Statement.{Contract, Triple}
use denote.Triple.Call.{calls_at}
use denote.Triple.Spec.{triple_of}
use denote.Triple.Table.{entered}
use denote.Triple.Clauses.{Ended, Clauses, closing, ensured, lasts}

-- what such a function takes, what it gives, and what it says of both
pub record Claim : Type 2 where
  pub takes : List (Slot 1)
  pub gives : Lfts 1 → RattleType
  pub says : (κs : Lfts 1) → Denots (types_at takes κs) → (gives κs).Denot → Type 0

-- the parameters' types at a lifetime, and the result's
module _ (F : Claim) (κ : Lft) where
  abbrev pub rows : List RattleType
  rows = types_at F.takes (κ, tt)

  abbrev pub row : RattleType
  row = F.gives (κ, tt)

-- the lifetime's token
abbrev pub token : {M : Type 1} {𝓤 : Ura M} → Lft → Share → Item 𝓤
token κ q = ‵ (flft κ q) ⊛ ‵ ftrue

-- ---- the contract
module _ (F : Claim) where
  abbrev ended : Ended
  ended = record { signature = record { lifetimes = 1; outlives = []; params = F.takes; result = plain F.gives }; kept = all yes F.takes }

  module _ {M : Type 1} (𝓤 : Ura M) where
    abbrev clauses : Clauses 𝓤 ended
    clauses κs a = record { ghost = Unit {0}; requires = λ _. emp 𝓤; ensures = λ _ r _. fact 𝓤 (F.says κs a r) }

    module _ (𝓛 : Logic 𝓤) where
      abbrev pub Stated : Contract 𝓤
      Stated = triple_of 𝓛 ended.signature (closing 𝓛 ended clauses)

      module _ (κ : Lft) (q : Share) (a : Denots (rows F κ)) (vss : Valss (rows F κ)) where
        abbrev binds : Stated.Ghost
        binds = (((κ, tt), (q, tt), tt, a, vss), tt)

        -- what a caller has to have, and what is to be had when the function returns
        abbrev pub Called : SProp 𝓤
        Called = Stated.pre binds

        abbrev pub Returned : Val → SProp 𝓤
        Returned = Stated.post binds

-- ---- nothing is bound of a parameter at exit, so nothing is said of it
abbrev Quiet : Slot 1 → Type 1
Quiet s = (κs : Lfts 1) (x : (s.row κs).Denot) → (w : Last ((s.row κs).exit yes) x) × (left ((s.row κs).exit yes) x w ≡ ftrue)

abbrev pub Quiets : List (Slot 1) → Type 1
Quiets [] = Unit {1}
Quiets (s ∷ ss) = Quiet s × Quiets ss

abbrev last : (ss : List (Slot 1)) → Quiets ss → (κs : Lfts 1) (a : Denots (types_at ss κs)) → Fins κs ss (all yes ss) a
last [] quiet κs a = tt
last (s ∷ ss) quiet κs a = ((quiet.0 κs a.0).0, last ss quiet.1 κs a.1)

module _ {M : Type 1} {𝓤 : Ura M} (𝓛 : Logic 𝓤) where
  silent : (ss : List (Slot 1)) (quiet : Quiets ss) (κs : Lfts 1) (a : Denots (types_at ss κs)) → ent 𝓤 (emp 𝓤) (sem 𝓛 (lasts_of κs ss (all yes ss) a (last ss quiet κs a)))
  silent [] quiet κs a = id⊢ 𝓤 (emp 𝓤)
  silent (s ∷ ss) quiet κs a =
      let P : Fml = left ((s.row κs).exit yes) a.0 (quiet.0 κs a.0).0 in
      let R : Fml = lasts_of κs ss (all yes ss) a.1 (last ss quiet.1 κs a.1) in
      qed 𝓛 [] {P = sem 𝓛 (fsep P R)} (use0 𝓛 (‵ R) (silent ss quiet.1 κs a.1) $
      use0 𝓛 (‵ P) (subst (λ (N : Fml). ent 𝓤 (emp 𝓤) (sem 𝓛 N)) (sym (quiet.0 κs a.0).1) (id⊢ 𝓤 (emp 𝓤))) $ fjoin ! $ done !)

-- ---- its code is left: with the result and the token, where the fact holds
module _ (F : Claim) (quiet : Quiets F.takes) {M : Type 1} {𝓤 : Ura M} (𝓛 : Logic 𝓤) where
  pub ends : (κ : Lft) (q : Share) (a : Denots (rows F κ)) (vss : Valss (rows F κ)) (r : (row F κ).Denot) (u : Val) → F.says (κ, tt) a r → ent 𝓤 (⋆ 𝓛 (‵ ((row F κ).own_val r (u ∷ [])) ∷ token κ q ∷ [])) (Returned F 𝓤 𝓛 κ q a vss u)
  ends κ q a vss r u x =
      let Had : (row F κ).Denot → SProp 𝓤 = λ r'. sep 𝓤 (sep 𝓤 (sep 𝓤 (sem 𝓛 (flft κ q)) (emp 𝓤)) (sem 𝓛 ((row F κ).own_val r' (u ∷ [])))) (ensured 𝓛 (ended F) (clauses F 𝓤) (κ, tt) a tt r') in
      let Said : Fins (κ, tt) F.takes (all yes F.takes) a → SProp 𝓤 = λ ws. sep 𝓤 (sem 𝓛 (lasts (ended F) (κ, tt) a ws)) (fact 𝓤 (F.says (κ, tt) a r)) in
      let ws : Fins (κ, tt) F.takes (all yes F.takes) a = last F.takes quiet (κ, tt) a in
      qed 𝓛 (‵ ((row F κ).own_val r (u ∷ [])) ∷ token κ q ∷ []) ∵ suffices ! (Had r) (via 𝓤 (ex 𝓤 Had) (ex_i 𝓤 Had r) (𝓛.laws.⇛_intro (ex 𝓤 Had))) $
      move ! (1 ∷ 0 ∷ []) $ join ! $ frame ! $ suffices ! (Said ws) (ex_i 𝓤 Said ws) $ use0 𝓛 (raw (fact 𝓤 (F.says (κ, tt) a r))) (fact_i 𝓤 (F.says (κ, tt) a r) (emp 𝓤) x) $
      use0 𝓛 (‵ (lasts (ended F) (κ, tt) a ws)) (silent 𝓛 F.takes quiet (κ, tt) a) $ join ! $ done !

-- ---- its code is entered: what γ calls k has the code e, and a walk of e at the parameters' machine values shows that it meets the contract
module _ (F : Claim) {M : Type 1} {𝓤 : Ura M} (𝓛 : Logic 𝓤) (𝓜 : Model 𝓤 𝓛.H) (𝓡 : Running 𝓤 𝓛.H 𝓜) (γ : Names) where
  open 𝓛 use {H}

  abbrev C : Calls 𝓤 H
  C = (tables 𝓤 H 𝓜 𝓡 γ).C

  abbrev Λ : Loops 𝓤 H
  Λ = (tables 𝓤 H 𝓜 𝓡 γ).Λ

  pub proved : (k : Callee) (e : Fn) → Closed 𝓤 H C Λ k e → (sp : (κs : Lfts 1) → Spells (types_at F.takes κs)) → ((κs : Lfts 1) → Tellss (types_at F.takes κs) (Ises (types_at F.takes κs)) (sp κs))
      → (FmC 𝓤 H 𝓛.laws C → (κ : Lft) (q : Share) (a : Denots (rows F κ)) → Are (rows F κ) (Ises (rows F κ)) a (valss (rows F κ) (sp (κ, tt)) a)
      → ent 𝓤 (⋆ 𝓛 (token κ q ∷ ‵ (owns (rows F κ) a (valss (rows F κ) (sp (κ, tt)) a)) ∷ [])) (WpFn 𝓤 H C Λ e (flat (rows F κ) (valss (rows F κ) (sp (κ, tt)) a)) (Returned F 𝓤 𝓛 κ q a (valss (rows F κ) (sp (κ, tt)) a))))
      → Triple 𝓤 (𝓡.run (γ k)) (Stated F 𝓤 𝓛)
  unfolding tables_of
  proved k e closed sp tl walk =
      entered 𝓤 H (Stated F 𝓤 𝓛) C Λ k e closed (λ y. via 𝓤 _ (fst∗ 𝓤 _ (emp 𝓤)) (said 𝓛 (ended F).signature y.0.0 y.0.1 (sp y.0.0) (tl y.0.0) y.0.3
      (λ us. WpFn 𝓤 H C Λ e (flat (rows F y.0.0.0) us) (Returned F 𝓤 𝓛 y.0.0.0 y.0.1.0 y.0.3 us)) y.0.4
      (walk (fm_of 𝓤 H 𝓛.laws (tables_of 𝓤 H 𝓜 (tables 𝓤 H 𝓜 𝓡 γ))) y.0.0.0 y.0.1.0 y.0.3)))

-- ---- it is called: what its parameters own goes to it with the token, which comes back beside the result, its type's relation and the fact
pub calls : (F : Claim) {M : Type 1} {𝓤 : Ura M} {𝓛 : Logic 𝓤} {K : Type 0} {Γ : List (Item 𝓤)} {E : Env 𝓤 𝓛.H} {C : Calls 𝓤 𝓛.H} {f : Callee} {xs : List Operand} {Λ : Loops 𝓤 𝓛.H} {z : Post 𝓤 𝓛.H} {to : Place} {rest : Body}
    → K → FmC 𝓤 𝓛.H 𝓛.laws C → Triple 𝓤 (C f) (Stated F 𝓤 𝓛) → (κ : Lft) (q : Share) (a : Denots (rows F κ)) (vss : Valss (rows F κ)) → Opds K 𝓛 (raw (Called F 𝓤 𝓛 κ q a vss) ∷ Γ) E xs (flat (rows F κ) vss)
    → ((r : (row F κ).Denot) (u : Val) → F.says (κ, tt) a r → Is (row F κ) r (u ∷ []) → Seq K 𝓛 (‵ ((row F κ).own_val r (u ∷ [])) ∷ token κ q ∷ Γ) (lands C Λ E to u rest z))
    → Seq K 𝓛 (token κ q ∷ ‵ (owns (rows F κ) a vss) ∷ Γ) (runs C Λ E (seq (call f xs to) rest) z)
calls F {𝓤 = 𝓤} {𝓛 = 𝓛} i fm met κ q a vss os k =
    let Ens : (row F κ).Denot → SProp 𝓤 = ensured 𝓛 (ended F) (clauses F 𝓤) (κ, tt) a tt in
    use2 𝓛 (raw (Called F 𝓤 𝓛 κ q a vss)) (qed 𝓛 (token κ q ∷ ‵ (owns (rows F κ) a vss) ∷ []) ∵ join ! $ frame ! $ done !) $
    calls_at i fm (Stated F 𝓤 𝓛) met (binds F 𝓤 𝓛 κ q a vss) os (λ u. use1 𝓛 (later (some (λ (r : (row F κ).Denot). (token κ q ⊛ ‵ ((row F κ).own_val r (u ∷ []))) ⊛ raw (Ens r)))) (id⊢ 𝓤 _) $ await i tt $ pick i (λ r.
    split i $ move i (1 ∷ []) $ use1 𝓛 (raw (fact 𝓤 (F.says (κ, tt) a r))) (ex_e 𝓤 _ (λ ws. snd∗ 𝓤 (sem 𝓛 (lasts (ended F) (κ, tt) a ws)) (fact 𝓤 (F.says (κ, tt) a r)))) $
    heard i (F.says (κ, tt) a r) (λ e. split i $ move i (1 ∷ []) $ peeks i (row F κ) (Is (row F κ)) (shows 𝓛 (row F κ)) r (u ∷ []) (λ is. k r u e is))))
