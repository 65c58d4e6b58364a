-- The batches that one client sent as one id and epoch, all to one partition: how they grow as
-- messages go out.
use Rattle.std.proofs.Common.{◌≡◌, ⊎_elim, ◌^◌, ◌≤◌, ◌+◌, ℕ, true, List, []}
use Rattle.std.proofs.Common.{◌∷◌, ◌++◌, length, Contains, All, refl, sym, ap, ◌∙◌, arith}
use Rattle.std.proofs.Common.{append_assoc, ◌≢◌}
use Rattle.std.proofs.lemmas.List.{flat_map_more, length-append}
use Rattle.std.proofs.lemmas.List.Elements.{All-nil, All-push, Contains-append_left}
use Rattle.std.proofs.lemmas.List.Elements.{Contains-push, Contains-push_cases}
use Rattle.kx_message.specs.declared.message.Held.{Held}
use Rattle.kx_message.specs.declared.message.Message.{Message}
use Rattle.kx_message.specs.declared.message.Message.TheVariants as msg
use Rattle.kx_message.specs.declared.requests.Produce.{Produce}
use Rattle.kx_client.specs.declared.values.Values.{Values}
use Rattle.kx_model.specs.Client.{client_batch, value_records}
use Rattle.kx_system.specs.Processor.{fits}
use Rattle.kx_pipeline.specs.Outputs.{WasSent, all_in, values_of}
use Rattle.kx_pipeline.proofs.SentTexts.{IsAs, IsTextOf, Sends, push_split, same_request}

-- the client sent the request, and its batch is of this id and epoch
pub record IsBy (sent : List Message) (client : ℕ) (held : Held) (request : Produce) : Type 0 where
  pub there : Contains sent (msg.Produce request)
  pub its : request.caller.client ≡ client
  pub pair : IsAs request.partition held.id held.epoch request

-- what the client sent as the pair is the texts of these batches, all to one partition
pub record Sole (sent : List Message) (client output : ℕ) (held : Held) (batches : List Values)
    : Type 0 where
  pub each : (before : List Values) (values : Values) (after : List Values)
      → batches ≡ before ++ values ∷ after
      → WasSent sent output held.id held.epoch before values
  pub only : (request : Produce) → IsBy sent client held request
      → (request.partition ≡ output) × IsTextOf batches held.id held.epoch request.batch
  pub fit : All (λ values. fits values ≡ true) batches
  pub few : length (values_of batches) ≤ 2 ^ 31

-- before anything is sent as the pair
pub sole_first : (sent : List Message) (client output : ℕ) (held : Held)
    → ((request : Produce) → IsBy sent client held request → ⊥) → Sole sent client output held []
sole_first sent client output held none = record {
  each = λ before values after e.
      absurd (omega (arith, ap length e, length-append before (values ∷ after)));
  only = λ request by. absurd (none request by);
  fit = All-nil (λ (v : Values). fits v ≡ true);
  few = omega arith;
}

module _ (sent : List Message) (client output : ℕ) (held : Held) (batches : List Values)
    (sole : Sole sent client output held batches) where
  -- more messages, none of which is a new batch of the client and the pair
  pub sole_on : (later : List Message) → ((m : Message) → Contains sent m → Contains later m)
      → ((request : Produce) → IsBy later client held request → IsBy sent client held request)
      → Sole later client output held batches
  sole_on later up back = record {
    each = λ before values after e.
        let h = sole.each before values after e in
        record {
          request = h.request;
          handed = up (msg.Produce h.request) h.handed;
          here = h.here;
          text = h.text;
        };
    only = λ request by. sole.only request (back request by);
    fit = sole.fit;
    few = sole.few;
  }

  -- one more batch, behind those before it
  pub sole_more : (request : Produce) (values : Values) → request.partition ≡ output
      → request.batch ≡ client_batch true held (length (values_of batches))
      (value_records (all_in values))
      → fits values ≡ true → length (values_of batches) + length (all_in values) ≤ 2 ^ 31
      → Sole (sent ++ msg.Produce request ∷ []) client output held (batches ++ values ∷ [])
  sole_more request values here is fit room = record {
    each = λ before v after e.
        ⊎_elim
        (λ h. record {
          request = request;
          handed = Contains-push sent (msg.Produce request);
          here = here;
          text =
              is
              ∙ ap (λ l. client_batch true held (length (values_of l))
              (value_records (all_in values))) h.0
              ∙ ap (λ x. client_batch true held (length (values_of before))
              (value_records (all_in x))) h.1;
        })
        (λ h. let w = sole.each before v h.0 h.1 in
        record {
          request = w.request;
          handed = was w.request w.handed;
          here = w.here;
          text = w.text;
        }) (push_split batches before after values v e);
    only = λ other by.
        ⊎_elim
        (λ old. let o = sole.only other (record { there = old; its = by.its; pair = by.pair }) in
        let t = o.1 in (
          o.0,
          record {
            before = t.before;
            values = t.values;
            after = t.after ++ values ∷ [];
            parts = ap (λ l. l ++ values ∷ []) t.parts
                ∙ append_assoc t.before (t.values ∷ t.after) (values ∷ []);
            is = t.is;
          },
        ))
        (λ new. let same = same_request request other new in (
          ap (λ (r : Produce). r.partition) (sym same) ∙ here,
          record {
            before = batches;
            values = values;
            after = [];
            parts = refl;
            is = ap (λ (r : Produce). r.batch) (sym same) ∙ is;
          },
        ))
        (Contains-push_cases sent (msg.Produce request) (msg.Produce other) by.there);
    fit = All-push (λ (v : Values). fits v ≡ true) batches values sole.fit fit;
    few = omega (
      arith,
      room,
      ap length (sym (flat_map_more all_in [] batches values)),
      length-append (values_of batches) (all_in values),
    );
  }
    where
      was : (r : Produce) → Contains sent (msg.Produce r)
          → Contains (sent ++ msg.Produce request ∷ []) (msg.Produce r)
      was r there = Contains-append_left sent (msg.Produce request ∷ []) (msg.Produce r) there

  -- if the client alone sent as the pair, these batches are all that was sent to the partition
  pub sole_sends : ((request : Produce) → Contains sent (msg.Produce request)
      → IsAs request.partition held.id held.epoch request → request.caller.client ≡ client)
      → Sends sent output held.id held.epoch batches
  sole_sends alone = record {
    each = sole.each;
    only = λ request there its.
        let pair : IsAs request.partition held.id held.epoch request = record {
          here = refl;
          batch = its.batch;
          reads = its.reads;
          its_id = its.its_id;
          its_epoch = its.its_epoch;
        } in
        (sole.only request (record {
          there = there;
          its = alone request there pair;
          pair = pair;
        })).1;
    fit = sole.fit;
    few = sole.few;
  }

  -- and nothing was sent to another
  pub sends_elsewhere : ((request : Produce) → Contains sent (msg.Produce request)
      → IsAs request.partition held.id held.epoch request → request.caller.client ≡ client)
      → (partition : ℕ) → partition ≢ output → Sends sent partition held.id held.epoch []
  sends_elsewhere alone partition other = record {
    each = λ before values after e.
        absurd (omega (arith, ap length e, length-append before (values ∷ after)));
    only = λ request there its.
        let pair : IsAs request.partition held.id held.epoch request = record {
          here = refl;
          batch = its.batch;
          reads = its.reads;
          its_id = its.its_id;
          its_epoch = its.its_epoch;
        } in
        absurd (other (sym its.here ∙ (sole.only request (record {
          there = there;
          its = alone request there pair;
          pair = pair;
        })).0));
    fit = All-nil (λ (v : Values). fits v ≡ true);
    few = omega arith;
  }
