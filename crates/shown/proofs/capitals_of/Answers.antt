-- `shown::capitals_of` meets its contract: each letter's capital, in its place. Assumes nothing.
use Rattle.std.proofs.Common.{rules, of_calls, ◌≡◌, ℕ, ◌<◌, length, map, get_or, sym, ◌∙◌, arith}
use Rattle.std.proofs.lemmas.List.{get_or-map, length-map}
use Rattle.bicycle_common.specs.declared.Pauli.TheVariants.{I}
use Rattle.bicycle_common.specs.Letters.{capital}
use Rattle.bicycle_common.proofs.Ranges.{listed_all}
use Rattle.shown.proofs.capitals_of.Goals as goal

pub returns : goal.returns
returns c =
    let xs = c.args.letters in
    let h = c.map.ensures.items in
    let f : ℕ → ℕ = λ t. capital (get_or xs t I) in
    let each : (t : ℕ) → t < 12 → get_or c.map.result t 0 ≡ f t = λ t l. let a = h.at t I 0 l in let k = a.2 in search (rules, of_calls) in
    let n : length xs ≡ 12 = search rules in
    listed_all f 0 c.map.result 12 h.long each
    ∙ sym (listed_all f 0 (map capital xs) 12 (length-map xs capital ∙ n) (λ t l. get_or-map capital xs t I 0 (omega (arith, n))))
