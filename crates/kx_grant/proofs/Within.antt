-- What stays as long as the core goes on with the same pair, once a batch went to it.
use Rattle.std.proofs.Common.{◌≡◌, ℕ, ℤ, Bool, true, false, cond, List, [], ◌∷◌, refl, ap}
use Rattle.std.proofs.Common.{◌∙◌, subst, inl, inr, Some, None}
use Rattle.std.specs.Prelude.{Option, unwrap_or, ◌&&◌}
use Rattle.kx_message.specs.declared.code.ErrorCode.{ErrorCode}
use Rattle.kx_message.specs.declared.message.Held.{Held}
use Rattle.kx_message.specs.declared.outcome.Outcome.{Outcome}
use Rattle.kx_grant.specs.Sequences.{sequence_in}
use Rattle.kx_grant.specs.Grant.{commit_code, committing}
use Rattle.kx_grant.specs.Grant.{after_verdict, at, batch_verdict, begun_at, counts, ended_empty}
use Rattle.kx_grant.specs.Grant.{gone_on, with_sent, is_held, listing, next_at, noted, opened, stopped}
use Rattle.kx_grant.specs.Grant.{stopped_at, with_at}
use Rattle.kx_grant.specs.Steps.{Step, Adds, Batches, Takes, Refuses, Ends, Commits, Goes, Regrants}
use Rattle.kx_grant.specs.Steps.{after_all, after_step, all_stay, stays}
use Rattle.kx_grant.specs.declared.grant.Grant.{Grant}
use Rattle.kx_grant.specs.declared.grant.Listed.{Listed}
use Rattle.kx_grant.specs.declared.grant.Phase.{Phase}
use Rattle.kx_grant.specs.declared.grant.Phase.TheVariants as phase
use Rattle.kx_grant.specs.declared.verdicts.BatchVerdict.{BatchVerdict}
use Rattle.kx_grant.specs.declared.verdicts.BatchVerdict.TheVariants.{Send, Refused}
use Rattle.kx_grant.proofs.Places.{at_other, at_same, same_or_not}
use Rattle.kx_grant.proofs.Sends.{IsSent}

-- the transaction begins here in a partition
pub record HasBase (xs : List (Option Listed)) (p base : ℕ) : Type 0 where
  pub listed : Listed
  pub listed_is : at xs p ≡ Some listed
  pub base_is : listed.base ≡ Some base

pub record Based (x : Option Listed) (base : ℕ) : Type 0 where
  pub listed : Listed
  pub is : x ≡ Some listed
  pub base_is : listed.base ≡ Some base

-- a change of what there is of a partition that keeps a begin
abbrev pub Keeps : (Option Listed → Option Listed) → Type 0
Keeps f = (l : Listed) (base : ℕ) → l.base ≡ Some base → Based (f (Some l)) base

kept_here : (f : Option Listed → Option Listed) → Keeps f → (xs : List (Option Listed))
    (p base : ℕ) → HasBase xs p base → HasBase (with_at xs p (f (at xs p))) p base
kept_here f k xs p base h =
    let new = k h.listed base h.base_is in
    let same : at (with_at xs p (f (at xs p))) p ≡ f (at xs p) =
    at_same xs p h.listed (f (at xs p)) h.listed_is in
    record {
      listed = new.listed;
      listed_is = same ∙ (ap f h.listed_is ∙ new.is);
      base_is = new.base_is;
    }

kept : (f : Option Listed → Option Listed) → Keeps f → (xs : List (Option Listed))
    (p q base : ℕ) → HasBase xs p base → HasBase (with_at xs q (f (at xs q))) p base
kept f k xs p q base h =
    elim (same_or_not p q) [
      | inl e ↦
          subst (λ (n : ℕ). HasBase (with_at xs n (f (at xs n))) p base) e
          (kept_here f k xs p base h)
      | inr apart ↦ record {
        listed = h.listed;
        listed_is = at_other xs p q (f (at xs q)) apart ∙ h.listed_is;
        base_is = h.base_is;
      }
    ]

keeps_listing : (next : Option ℕ) → Keeps (listing next)
keeps_listing next l base e = record { listed = l; is = refl; base_is = e }

keeps_begun : (first : ℕ) → Keeps (begun_at first)
keeps_begun first l base e =
    record {
      listed = record l { base = Some (unwrap_or l.base first) };
      is = refl;
      base_is = ap (λ (x : Option ℕ). Some (unwrap_or x first)) e;
    }

keeps_stopped : Keeps stopped
keeps_stopped l base e = record { listed = record l { is_stopped = true }; is = refl; base_is = e }

pub record Within (granted core : Held) (p base : ℕ) (g : Grant) : Type 0 where
  pub granted_is : g.granted ≡ granted
  pub core_is : g.core ≡ core
  pub phase_is : g.phase ≡ phase.Sent
  pub has : HasBase g.listed p base

either : (W : Grant → Type 0) (b : Bool) (x y : Grant) → W x → W y → W (cond b x y)
either W true x y u v = u
either W false x y u v = v

by_verdict : (W : Grant → Type 0) (r : BatchVerdict) (x y : Grant) → W x → W y
    → W (after_verdict r x y)
by_verdict W (Send held first) x y u v = v
by_verdict W (Refused c) x y u v = u

both : (a b : Bool) → (a && b) ≡ true → (a ≡ true) × (b ≡ true)
both true b e = (refl, e)
both false b e = absurd cc

module _ (granted core : Held) (p base : ℕ) where
  abbrev In : Grant → Type 0
  In g = Within granted core p base g

  noted_in : (g : Grant) (q : ℕ) → In g → In (noted q g)
  noted_in g q w = record {
    granted_is = w.granted_is;
    core_is = w.core_is;
    phase_is = ap opened w.phase_is;
    has = kept (listing (next_at g q)) (keeps_listing (next_at g q)) g.listed p q base w.has;
  }

  with_sent_in : (g : Grant) (q : ℕ) (first : Option ℕ) → In g → In (with_sent g q first)
  with_sent_in g q None w = w
  with_sent_in g q (Some first) w = record {
    granted_is = w.granted_is;
    core_is = w.core_is;
    phase_is = refl;
    has = kept (begun_at first) (keeps_begun first) g.listed p q base w.has;
  }

  gone_in : (g : Grant) (q count : ℕ) → In g → In (gone_on g q count)
  gone_in g q count w = record {
    granted_is = w.granted_is;
    core_is = w.core_is;
    phase_is = w.phase_is;
    has = w.has;
  }

  stopped_in : (g : Grant) (q : ℕ) → In g → In (stopped_at g q)
  stopped_in g q w = record {
    granted_is = w.granted_is;
    core_is = w.core_is;
    phase_is = w.phase_is;
    has = kept stopped keeps_stopped g.listed p q base w.has;
  }

  ended_in : (f : Phase) (g : Grant) (outcome : Outcome) → f ≡ phase.Sent → In g
      → In (ended_empty f outcome g)
  ended_in phase.Empty g outcome e w = absurd cc
  ended_in phase.Sent g outcome e w = w
  ended_in phase.Resumed g outcome e w = w
  ended_in (phase.Ended last) g outcome e w = w
  ended_in (phase.Decided last) g outcome e w = w

  committed_in : (refusal : Option ErrorCode) (g : Grant) → In g → In (committing refusal g)
  committed_in None g w = record {
    granted_is = w.granted_is;
    core_is = w.core_is;
    phase_is = refl;
    has = w.has;
  }
  committed_in (Some code) g w = w

  stepped : (g : Grant) (s : Step) → stays s ≡ true → In g → In (after_step g s)
  stepped g (Adds held q) e w =
      either In (is_held g.granted held) (noted q g) g (noted_in g q w) w
  stepped g (Batches held q first count) e w =
      by_verdict In (batch_verdict g held q first count) g (with_sent g q (sequence_in first)) w
      (with_sent_in g q (sequence_in first) w)
  stepped g (Takes held q first count) e w =
      either In (counts g held q first) (gone_on g q count) g (gone_in g q count w) w
  stepped g (Refuses held q first count) e w =
      either In (counts g held q first) (stopped_at (gone_on g q count) q) g
      (stopped_in (gone_on g q count) q (gone_in g q count w)) w
  stepped g (Ends held outcome) e w =
      either In (is_held g.granted held) (ended_empty g.phase outcome g) g
      (ended_in g.phase g outcome w.phase_is w) w
  stepped g (Commits held) e w = committed_in (commit_code g held) g w
  stepped g (Goes outcome next) e w = absurd cc
  stepped g (Regrants asked held) e w = absurd cc

  all_stepped : (steps : List Step) (g : Grant) → all_stay steps ≡ true → In g
      → In (after_all g steps)
  all_stepped [] g e w = w
  all_stepped (s ∷ steps) g e w =
      let b = both (stays s) (all_stay steps) e in
      all_stepped steps (after_step g s) b.1 (stepped g s b.0 w)

-- it is so after the batch
pub begins : (g : Grant) (held : Held) (p first : ℕ) (one : Held) (place : ℤ)
    → (s : IsSent g held p first one place)
    → Within g.granted g.core p (unwrap_or s.found.listed.base first) (with_sent g p (Some first))
begins g held p first one place s =
    let l = s.found.listed in
    record {
      granted_is = refl;
      core_is = refl;
      phase_is = refl;
      has = record {
        listed = record l { base = Some (unwrap_or l.base first) };
        listed_is = at_same g.listed p l (begun_at first (at g.listed p)) s.found.listed_is
            ∙ ap (begun_at first) s.found.listed_is;
        base_is = refl;
      };
    }

-- and after whatever comes as long as the core's pair stays
pub stays_within : (granted core : Held) (p base : ℕ) (steps : List Step) (g : Grant)
    → all_stay steps ≡ true → Within granted core p base g
    → Within granted core p base (after_all g steps)
stays_within granted core p base steps g e w = all_stepped granted core p base steps g e w
