-- The rule of the step: the row's cells go out.
use Rattle.edit_store.specs.Store.{lowered}
use Rattle.edit_store.proofs.lower_loads.Given as goal

abbrev pub ghost-step_loads : goal.ghost-step_loads
ghost-step_loads a = lowered a.row.len
