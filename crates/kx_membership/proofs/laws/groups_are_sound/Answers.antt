use Rattle.kx_membership.proofs.Sound.{is_answered, sound_after}
use Rattle.kx_membership.proofs.laws.groups_are_sound.Goals as goal

pub returns-clause-kept : goal.returns-clause-kept
returns-clause-kept c = λ g step sound. sound_after g step sound

pub returns-clause-answered : goal.returns-clause-answered
returns-clause-answered c = λ g m number sound found. is_answered g m number sound found
