use Rattle.laws.proofs.Costs.{within_cost, within_heights, listed_within, loaded_within, needs_are_printed}
use Rattle.laws.proofs.scans_end_within_cost.Goals as goal

pub returns : goal.returns
returns c = record { cost = within_cost; heights = within_heights; listed = listed_within; loaded = loaded_within; printed = needs_are_printed }
