-- Messages that are taken in, and that no step of any trace hands out.
use Rattle.std.proofs.Common.{◌≡◌, ℕ, zero, suc, List, [], ◌∷◌, ◌++◌, Some, Contains, refl, sym, ap}
use Rattle.std.proofs.Common.{◌∙◌, ⊎_elim, subst}
use Rattle.std.specs.Prelude.{slice_get}
use Rattle.std.proofs.lemmas.List.Elements.{Contains-append_cases, Contains-append_left}
use Rattle.std.proofs.lemmas.List.Elements.{Contains-append_right}
use Rattle.std.proofs.lemmas.Option.{same_Some}
use Rattle.kx_laws.proofs.Membership.{flat_map_holds}
use Rattle.kx_audit.specs.Joined.{IsWay, Passed, WasHandedOut, handed_out}
use Rattle.kx_audit.specs.Making.{NodeMaking, Trail, trail_of}
use Rattle.kx_audit.specs.Origins.{HasStranger, sent_by}
use Rattle.kx_audit.specs.Refused.{HaveStranger, TakesStranger}
use Rattle.kx_audit.specs.Replayed.{AreReplayed, Progress, messages_in, traces_of, trails_of}
use Rattle.kx_audit.specs.Told.{takens_in}
use Rattle.kx_machine.specs.Meaning.{NodeState}
use Rattle.kx_machine.specs.declared.input.Input.{Input}
use Rattle.kx_machine.specs.declared.input.Input.TheVariants as input
use Rattle.kx_machine.specs.declared.taken.Taken.{Taken}
use Rattle.kx_message.specs.declared.message.Message.{Message}
use Rattle.kx_nodes.specs.declared.trace.Step.{Step}
use Rattle.kx_audit.proofs.Handing.{number_of}
use Rattle.kx_audit.proofs.OneWay.{TellAnswers, run_is_way, run_takens, way_takens}
use Rattle.kx_audit.proofs.Sources.{at_trail, trail_at}

------ one step

-- what may not come behind these messages is another one
pub stranger : (sent : List Message) (given : Input) → (WasHandedOut sent given → ⊥)
    → (message : Message) × (given ≡ input.Deliver message) × (Contains sent message → ⊥)
stranger sent (input.Deliver message) unsent = (message, refl, unsent)
stranger sent other unsent = absurd (unsent tt)

-- if each step may, there is none
pub no_stranger_in : (sent : List Message) (steps : List Step)
    → ((k : ℕ) (step : Step) → slice_get steps k ≡ Some step → WasHandedOut sent step.input)
    → TakesStranger sent steps → ⊥
no_stranger_in sent steps all takes =
    takes.unsent (subst (WasHandedOut sent) takes.takes (all takes.place takes.step takes.there))

------ all that is handed out

handed_messages : (way : List Passed) → messages_in (takens_in way) ≡ handed_out way
handed_messages [] = refl
handed_messages (p ∷ way) =
    ap (λ (ms : List Message). p.taken.messages ++ ms) (handed_messages way)

module _ {B M : Type 0} where
  in_sent : (nodes : List (Progress B M)) (k : ℕ) (p : Progress B M) (m : Message)
      → slice_get nodes k ≡ Some p → Contains (messages_in p.takens) m
      → Contains (sent_by nodes) m
  in_sent [] k p m at c = absurd cc
  in_sent (q ∷ nodes) zero p m at c =
      Contains-append_left (messages_in q.takens) (sent_by nodes) m
      (subst (λ (x : Progress B M). Contains (messages_in x.takens) m) (sym (same_Some q p at)) c)
  in_sent (q ∷ nodes) (suc k) p m at c =
      Contains-append_right (messages_in q.takens) (sent_by nodes) m (in_sent nodes k p m at c)

  -- one of them hands it out
  record IsSentBy (nodes : List (Progress B M)) (m : Message) : Type 0 where
    number : ℕ
    node : Progress B M
    there : slice_get nodes number ≡ Some node
    has : Contains (messages_in node.takens) m

  sender : (nodes : List (Progress B M)) (m : Message) → Contains (sent_by nodes) m
      → IsSentBy nodes m
  sender nodes m c =
      let h = flat_map_holds (λ (p : Progress B M). messages_in p.takens) nodes m c in
      let n = number_of nodes h.0 h.1 in
      record { number = n.0; node = h.0; there = n.1; has = h.2 }

------ all traces

module _ {B M : Type 0} (making : B → NodeMaking) (stands : NodeState → M → Type 0) where
  abbrev Trails : List (Progress B M) → List Trail
  Trails nodes = trails_of making (traces_of nodes)

  -- one that those which were run again don't hand out, no way hands out
  pub have_stranger : TellAnswers → (arrived : List Message) (nodes : List (Progress B M))
      → AreReplayed making stands nodes → HasStranger arrived nodes
      → HaveStranger arrived (Trails nodes)
  have_stranger tells arrived nodes replayed has =
      let takes = has.takes in
      record {
        number = has.number;
        trail = trail_of making has.node.trace;
        place = takes.place;
        step = takes.step;
        message = takes.message;
        trail_is = trail_at making nodes has.number has.node has.there;
        there = takes.there;
        takes = takes.takes;
        none = λ k t way at is out.
            let p = at_trail making nodes k t at in
            let own = subst (λ (u : Trail). IsWay u way) (sym p.trail_is) is in
            let same = way_takens making stands tells p.node way (replayed k p.node p.there) own in
            takes.unsent (Contains-append_right arrived (sent_by nodes) takes.message
            (in_sent nodes k p.node takes.message p.there
            (subst (λ (l : List Message). Contains l takes.message)
            (sym (handed_messages way) ∙ ap (λ (l : List Taken). messages_in l) same) out)));
        inside = λ here.
            takes.unsent (Contains-append_left arrived (sent_by nodes) takes.message here);
      }

  -- and one that they hand out, their runs do
  pub no_stranger : (arrived : List Message) (nodes : List (Progress B M))
      → AreReplayed making stands nodes → (HasStranger arrived nodes → ⊥)
      → HaveStranger arrived (Trails nodes) → ⊥
  no_stranger arrived nodes replayed without has =
      let p = at_trail making nodes has.number has.trail has.trail_is in
      without (record {
        number = has.number;
        node = p.node;
        there = p.there;
        takes = record {
          place = has.place;
          step = has.step;
          message = has.message;
          there = subst (λ (u : Trail). slice_get u.steps has.place ≡ Some has.step)
              (sym p.trail_is) has.there;
          takes = has.takes;
          unsent = λ either. ⊎_elim has.inside (λ sent.
              let by = sender nodes has.message sent in
              let is = replayed by.number by.node by.there in
              has.none by.number (trail_of making by.node.trace) is.answers.way
              (trail_at making nodes by.number by.node by.there)
              (run_is_way making stands by.node is)
              (subst (λ (l : List Message). Contains l has.message)
              (ap (λ (l : List Taken). messages_in l) (sym (run_takens making stands by.node is))
              ∙ handed_messages is.answers.way) by.has))
              (Contains-append_cases arrived (sent_by nodes) has.message either);
        };
      })
