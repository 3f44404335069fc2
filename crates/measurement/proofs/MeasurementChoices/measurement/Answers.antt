-- `measurement::MeasurementChoices::measurement` meets its contract: the constants of each code, laid out by rows, compute to the digits of
-- the definition. Assumes nothing.
use mathlib.Core.List.{flat_map}
use mathlib.Core.Path.{sym, ap, ◌∙◌}
use Rattle.bicycle_common.specs.Ranges.{list_from}
use Rattle.measurement.specs.Codes.{code_pair}
use Rattle.measurement.proofs.MeasurementChoices.measurement.Goals as goal

pub returns-in-Gross : goal.returns-in-Gross
unfolding list_from flat_map
returns-in-Gross c = c.new.ensures ∙ sym (ap code_pair c.in-Gross.is)

pub returns-in-TwoGross : goal.returns-in-TwoGross
unfolding list_from flat_map
returns-in-TwoGross c = c.new-in-TwoGross.ensures ∙ sym (ap code_pair c.in-TwoGross.is)
