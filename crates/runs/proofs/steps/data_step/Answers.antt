use Rattle.std.proofs.Common.{Ok, Err, refl}
use Rattle.calls.specs.declared.data.DataAnswer.TheVariants.{Next as Found}
use Rattle.keeper.specs.Dealings.{figures}
use Rattle.keeper.proofs.Told.{passed_on}
use Rattle.runs.proofs.Lifted.{steps_ask}
use Rattle.runs.proofs.steps.data_step.Goals as goal

pub returns-in_ok-count-in-Total : goal.returns-in_ok-count-in-Total
returns-in_ok-count-in-Total g c = let m = c.in_ok-count-in-Total in steps_ask figures (Ok (m.count, m.sum)) c.requires.table c.in-Total.is refl refl m.ensures

pub returns-in_err-count-in-Total : goal.returns-in_err-count-in-Total
returns-in_err-count-in-Total g c = let m = c.in_err-count-in-Total in steps_ask figures (Err m.field-0.0) c.requires.table c.in-Total.is refl (passed_on c.from_residual.ensures.1) m.ensures

pub returns-in_ok-row-in-Next : goal.returns-in_ok-row-in-Next
returns-in_ok-row-in-Next g c = let m = c.in_ok-row-in-Next in steps_ask (λ r. Found r) (Ok m.row) c.requires.table c.in-Next.is refl refl m.ensures

pub returns-in_err-row-in-Next : goal.returns-in_err-row-in-Next
returns-in_err-row-in-Next g c = let m = c.in_err-row-in-Next in steps_ask (λ r. Found r) (Err m.field-0.0) c.requires.table c.in-Next.is refl (passed_on c.from_residual-in_err-row-in-Next.ensures.1) m.ensures
