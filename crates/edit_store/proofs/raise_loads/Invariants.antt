-- The rule of the step: the row's cells come in.
use Rattle.edit_store.specs.Store.{raised}
use Rattle.edit_store.proofs.raise_loads.Given as goal

abbrev pub ghost-step_loads : goal.ghost-step_loads
ghost-step_loads a = raised a.row.len
