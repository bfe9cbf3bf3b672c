use Rattle.std.proofs.Common.{refl}
use Rattle.keeper.proofs.Told.{passed_on}
use Rattle.keeper.proofs.Stepped.{steps_lock, steps_turn, steps_release}
use Rattle.keeper.proofs.running.step.Goals as goal

pub returns-in_ok-told-in-Lock : goal.returns-in_ok-told-in-Lock
returns-in_ok-told-in-Lock g c = steps_lock c.requires.table c.in-Lock.is refl c.in_ok-told-in-Lock.ensures

pub returns-in_err-told-in-Lock : goal.returns-in_err-told-in-Lock
returns-in_err-told-in-Lock g c = steps_lock c.requires.table c.in-Lock.is (passed_on c.from_residual-in_err-told-in-Lock.ensures.1) c.in_err-told-in-Lock.ensures

pub returns-in_ok-turn-in-Turn : goal.returns-in_ok-turn-in-Turn
returns-in_ok-turn-in-Turn g c = steps_turn c.requires.log c.in-Turn.is refl c.in_ok-turn-in-Turn.ensures

pub returns-in_err-turn-in-Turn : goal.returns-in_err-turn-in-Turn
returns-in_err-turn-in-Turn g c = steps_turn c.requires.log c.in-Turn.is (passed_on c.from_residual-in_err-turn-in-Turn.ensures.1) c.in_err-turn-in-Turn.ensures

pub returns-in_ok-release-in-Release : goal.returns-in_ok-release-in-Release
returns-in_ok-release-in-Release g c = steps_release c.requires.table c.in-Release.is refl c.in_ok-release-in-Release.ensures

pub returns-in_err-release-in-Release : goal.returns-in_err-release-in-Release
returns-in_err-release-in-Release g c = steps_release c.requires.table c.in-Release.is (passed_on c.from_residual-in_err-release-in-Release.ensures.1) c.in_err-release-in-Release.ensures
