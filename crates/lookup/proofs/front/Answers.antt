-- `lookup::front` meets its contract: the front has the length of what was written. Assumes nothing.
use Rattle.std.proofs.Common.{refl, length, rules}
use Rattle.std.proofs.lemmas.Result.{MatchResult-weaker}
use Rattle.pauli_string.specs.Strings.{qubits}
use Rattle.measurement.specs.Matrices.{side}
use Rattle.lookup.proofs.Written.{counted, twice_count, front_is, front_fits}
use Rattle.lookup.proofs.front.Goals as goal
use Rattle.lookup.proofs.front.Goals.{After-map_or-k}

pub slice_bounds-result-end : goal.slice_bounds-result-end
slice_bounds-result-end g c =
    let a = c.args in
    let u = c.look_up in
    front_fits _ _ (counted g.K.Kind.any qubits side a.table.now a.mx.now a.my.now a.p.0 (length a.out.now)) _ _ u.ensures c.map_or-k.result
    (twice_count u.result c.map_or-k.result (MatchResult-weaker u.result c.map_or-k.ensures (λ x p. search rules) (λ _ e. e)))

pub returns : goal.returns
returns g c =
    let a = c.args in
    let u = c.look_up in (
      front_is _ _ (counted g.K.Kind.any qubits side a.table.now a.mx.now a.my.now a.p.0 (length a.out.now)) _ _ u.ensures c.map_or-k.result
          (twice_count u.result c.map_or-k.result (MatchResult-weaker u.result c.map_or-k.ensures (λ x p. search rules) (λ _ e. e))),
      refl,
    )
