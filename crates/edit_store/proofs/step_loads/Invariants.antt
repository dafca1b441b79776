-- The rule of the step, handed on.
use Rattle.edit_store.proofs.step_loads.Given as goal

abbrev pub ghost-step_way : goal.ghost-step_way
ghost-step_way g a = g.by
