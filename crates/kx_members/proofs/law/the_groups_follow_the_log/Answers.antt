use Rattle.kx_members.proofs.Noting.{can_note}
use Rattle.kx_members.proofs.Standings.{change_stands, drop_same, join_same, leave_same}
use Rattle.kx_members.proofs.Standings.{nothing_stands, others_stand}
use Rattle.kx_members.proofs.law.the_groups_follow_the_log.Goals as goal

pub returns-clause-empty : goal.returns-clause-empty
returns-clause-empty c = nothing_stands

pub returns-clause-change : goal.returns-clause-change
returns-clause-change c = change_stands

pub returns-clause-others : goal.returns-clause-others
returns-clause-others c = others_stand

pub returns-clause-join : goal.returns-clause-join
returns-clause-join c = join_same

pub returns-clause-leave : goal.returns-clause-leave
returns-clause-leave c = leave_same

pub returns-clause-drop : goal.returns-clause-drop
returns-clause-drop c = drop_same

pub returns-clause-noted : goal.returns-clause-noted
returns-clause-noted c = can_note
