-- Once something of a transaction was sent to the core it is so until the core goes on.
use Rattle.std.proofs.Common.{◌≡◌, ℕ, Bool, true, false, cond, List, [], ◌∷◌, refl, ap}
use Rattle.std.proofs.Common.{Some, None}
use Rattle.std.specs.Prelude.{Option, ◌&&◌}
use Rattle.kx_message.specs.declared.code.ErrorCode.{ErrorCode}
use Rattle.kx_message.specs.declared.outcome.Outcome.{Outcome}
use Rattle.kx_grant.specs.Sequences.{sequence_in}
use Rattle.kx_grant.specs.Grant.{after_verdict, batch_verdict, commit_code, committing, counts}
use Rattle.kx_grant.specs.Grant.{ended_empty, gone_on, is_held, noted, opened, stopped_at, with_sent}
use Rattle.kx_grant.specs.Steps.{Step, Adds, Batches, Takes, Refuses, Ends, Commits, Goes, Regrants}
use Rattle.kx_grant.specs.Steps.{after_all, after_step, all_stay, stays}
use Rattle.kx_grant.specs.declared.grant.Grant.{Grant}
use Rattle.kx_grant.specs.declared.grant.Phase.{Phase}
use Rattle.kx_grant.specs.declared.grant.Phase.TheVariants as phase
use Rattle.kx_grant.specs.declared.verdicts.BatchVerdict.{BatchVerdict}
use Rattle.kx_grant.specs.declared.verdicts.BatchVerdict.TheVariants.{Send, Refused}

abbrev pub IsSent : Grant → Type 0
IsSent g = g.phase ≡ phase.Sent

either : (b : Bool) (x y : Grant) → IsSent x → IsSent y → IsSent (cond b x y)
either true x y u v = u
either false x y u v = v

by_verdict : (r : BatchVerdict) (x y : Grant) → IsSent x → IsSent y → IsSent (after_verdict r x y)
by_verdict (Send held first) x y u v = v
by_verdict (Refused c) x y u v = u

with_sent_sent : (g : Grant) (q : ℕ) (first : Option ℕ) → IsSent g → IsSent (with_sent g q first)
with_sent_sent g q None e = e
with_sent_sent g q (Some first) e = refl

ended_sent : (f : Phase) (g : Grant) (outcome : Outcome) → f ≡ phase.Sent → IsSent g
    → IsSent (ended_empty f outcome g)
ended_sent phase.Empty g outcome s e = absurd cc
ended_sent phase.Sent g outcome s e = e
ended_sent phase.Resumed g outcome s e = e
ended_sent (phase.Ended last) g outcome s e = e
ended_sent (phase.Decided last) g outcome s e = e

committed_sent : (refusal : Option ErrorCode) (g : Grant) → IsSent g
    → IsSent (committing refusal g)
committed_sent None g e = refl
committed_sent (Some code) g e = e

still_sent : (g : Grant) (s : Step) → stays s ≡ true → IsSent g → IsSent (after_step g s)
still_sent g (Adds held q) e s = either (is_held g.granted held) (noted q g) g (ap opened s) s
still_sent g (Batches held q first count) e s =
    by_verdict (batch_verdict g held q first count) g (with_sent g q (sequence_in first)) s
    (with_sent_sent g q (sequence_in first) s)
still_sent g (Takes held q first count) e s =
    either (counts g held q first) (gone_on g q count) g s s
still_sent g (Refuses held q first count) e s =
    either (counts g held q first) (stopped_at (gone_on g q count) q) g s s
still_sent g (Ends held outcome) e s =
    either (is_held g.granted held) (ended_empty g.phase outcome g) g
    (ended_sent g.phase g outcome s s) s
still_sent g (Commits held) e s = committed_sent (commit_code g held) g s
still_sent g (Goes outcome next) e s = absurd cc
still_sent g (Regrants asked held) e s = absurd cc

both : (a b : Bool) → (a && b) ≡ true → (a ≡ true) × (b ≡ true)
both true b e = (refl, e)
both false b e = absurd cc

pub all_still_sent : (steps : List Step) (g : Grant) → all_stay steps ≡ true → IsSent g
    → IsSent (after_all g steps)
all_still_sent [] g e s = s
all_still_sent (x ∷ steps) g e s =
    let b = both (stays x) (all_stay steps) e in
    all_still_sent steps (after_step g x) b.1 (still_sent g x b.0 s)
