-- The batches that were sent to a partition, by their texts: how they grow as messages go out, and
-- that they read back as the batches that they were made of.
use Rattle.std.proofs.Common.{◌≡◌, ◌⊎◌, inl, inr, ⊎_elim, ◌^◌, ◌<◌, ◌≤◌, ◌+◌, ℕ, true, List, []}
use Rattle.std.proofs.Common.{◌∷◌, ◌++◌, length, Contains, All, refl, sym, ap, ◌∙◌, subst, arith}
use Rattle.std.proofs.Common.{append_assoc}
use Rattle.std.proofs.lemmas.Grind.{flat_map-append}
use Rattle.std.proofs.lemmas.List.{flat_map_more, length-append}
use Rattle.std.proofs.lemmas.List.Elements.{All-contains, All-nil, All-push, Contains-append_left}
use Rattle.std.proofs.lemmas.List.Elements.{Contains-push, Contains-push_cases}
use Rattle.kx_message.specs.declared.message.Held.{Held}
use Rattle.kx_message.specs.declared.message.Message.{Message}
use Rattle.kx_message.specs.declared.message.Message.TheVariants as msg
use Rattle.kx_message.specs.declared.requests.Produce.{Produce}
use Rattle.kx_batch.specs.Batch.{batch_of}
use Rattle.kx_client.specs.declared.values.Values.{Values}
use Rattle.kx_model.specs.Client.{client_batch, value_records}
use Rattle.kx_model.specs.Log.{Data, Sequenced, entry_in}
use Rattle.kx_laws.proofs.Membership.{in_the_middle}
use Rattle.kx_headline.proofs.ClientRequests.{HeldFits}
use Rattle.kx_system.specs.Processor.{fits}
use Rattle.kx_pipeline.specs.Outputs.{WasSent, Wrote, all_in, values_of}
use Rattle.kx_pipeline.proofs.BatchesRead.{data_with, values_read}

-- the text is that of one of the batches, behind those before it
pub record IsTextOf (batches : List Values) (id epoch : ℕ) (text : List ℕ) : Type 0 where
  pub before : List Values
  pub values : Values
  pub after : List Values
  pub parts : batches ≡ before ++ values ∷ after
  pub is : text ≡ client_batch true (record { id = id; epoch = epoch })
      (length (values_of before)) (value_records (all_in values))

-- the request is for the partition, and its batch is of the id and epoch
pub record IsAs (partition id epoch : ℕ) (request : Produce) : Type 0 where
  pub here : request.partition ≡ partition
  pub batch : Sequenced
  pub reads : entry_in (batch_of request.batch) ≡ Data batch
  pub its_id : batch.id ≡ id
  pub its_epoch : batch.epoch ≡ epoch

-- what was sent to the partition as this id and epoch is the texts of these batches
pub record Sends (sent : List Message) (partition id epoch : ℕ) (batches : List Values)
    : Type 0 where
  pub each : (before : List Values) (values : Values) (after : List Values)
      → batches ≡ before ++ values ∷ after → WasSent sent partition id epoch before values
  pub only : (request : Produce) → Contains sent (msg.Produce request)
      → IsAs partition id epoch request → IsTextOf batches id epoch request.batch
  -- each is within the limit, and there are sequences for all
  pub fit : All (λ values. fits values ≡ true) batches
  pub few : length (values_of batches) ≤ 2 ^ 31

------ they read back

same_batch : (d e : Sequenced) → Data d ≡ Data e → d ≡ e
same_batch d e is = cc

module _ (sent : List Message) (partition id epoch : ℕ) (batches : List Values)
    (sends : Sends sent partition id epoch batches)
    (held_fits : HeldFits (record { id = id; epoch = epoch })) where
  abbrev held : Held
  held = record { id = id; epoch = epoch }

  -- each begins with a sequence that there is
  first_low : (before : List Values) (values : Values) (after : List Values)
      → batches ≡ before ++ values ∷ after → length (values_of before) < 2 ^ 31
  first_low before values after parts =
      omega (
        arith,
        sends.few,
        ap (λ l. length (values_of l)) parts,
        ap length (flat_map-append all_in before (values ∷ after)),
        length-append (values_of before) (values_of (values ∷ after)),
        length-append (all_in values) (values_of after),
      )

  pub sends_wrote : Wrote sent partition id epoch batches
  sends_wrote = record {
    each = sends.each;
    only = λ request there here d reads i k.
        let t = sends.only request there (record {
          here = here;
          batch = d;
          reads = reads;
          its_id = i;
          its_epoch = k;
        }) in
        let first = length (values_of t.before) in
        let records = value_records (all_in t.values) in
        let fit = All-contains (λ (v : Values). fits v ≡ true) batches t.values sends.fit
        (subst (λ l. Contains l t.values) (sym t.parts)
        (in_the_middle t.before t.after t.values)) in
        let same : d ≡ data_with held first records =
        same_batch d (data_with held first records)
        (sym reads ∙ ap (λ x. entry_in (batch_of x)) t.is
        ∙ values_read held held_fits first (first_low t.before t.values t.after t.parts)
        (all_in t.values) fit) in
        record {
          before = t.before;
          values = t.values;
          after = t.after;
          parts = t.parts;
          first = ap (λ (x : Sequenced). x.first) same;
          records = ap (λ (x : Sequenced). x.records) same;
        };
  }

------ as messages go out

-- a list with one more, split at an element: at the new one, or before it
pub push_split : (batches before after : List Values) (new values : Values)
    → batches ++ new ∷ [] ≡ before ++ values ∷ after
    → ((batches ≡ before) × (new ≡ values))
    ⊎ ((rest : List Values) × (batches ≡ before ++ values ∷ rest))
push_split [] [] after new values e = inl (refl, cc)
push_split [] (y ∷ before) after new values e =
    let none : [] ≡ before ++ values ∷ after = cc in
    absurd (omega (arith, ap length none, length-append before (values ∷ after)))
push_split (x ∷ batches) [] after new values e =
    let head : x ≡ values = cc in inr (batches, ap (λ v. v ∷ batches) head)
push_split (x ∷ batches) (y ∷ before) after new values e =
    let head : x ≡ y = cc in
    let rest : batches ++ new ∷ [] ≡ before ++ values ∷ after = cc in
    ⊎_elim (λ h. inl ((λ i. head i ∷ h.0 i), h.1)) (λ h. inr (h.0, λ i. head i ∷ h.1 i))
    (push_split batches before after new values rest)

was_later : (sent more : List Message) (partition id epoch : ℕ) (before : List Values)
    (values : Values) → WasSent sent partition id epoch before values
    → WasSent (sent ++ more) partition id epoch before values
was_later sent more partition id epoch before values h = record {
  request = h.request;
  handed = Contains-append_left sent more (msg.Produce h.request) h.handed;
  here = h.here;
  text = h.text;
}

pub same_request : (a b : Produce) → msg.Produce a ≡ msg.Produce b → a ≡ b
same_request a b e = cc

-- before anything is sent
pub sends_first : (partition id epoch : ℕ) → Sends [] partition id epoch []
sends_first partition id epoch = record {
  each = λ before values after e.
      absurd (omega (arith, ap length e, length-append before (values ∷ after)));
  only = λ request there its. absurd (omega (arith, there.1));
  fit = All-nil (λ (v : Values). fits v ≡ true);
  few = omega arith;
}

module _ (sent : List Message) (partition id epoch : ℕ) (batches : List Values)
    (sends : Sends sent partition id epoch batches) where
  -- what isn't sent to the partition as the id and epoch changes nothing
  pub sends_other : (m : Message)
      → ((request : Produce) → m ≡ msg.Produce request → IsAs partition id epoch request → ⊥)
      → Sends (sent ++ m ∷ []) partition id epoch batches
  sends_other m other = record {
    each = λ before values after e.
        was_later sent (m ∷ []) partition id epoch before values
        (sends.each before values after e);
    only = λ request there its.
        ⊎_elim (λ old. sends.only request old its) (λ new. absurd (other request new its))
        (Contains-push_cases sent m (msg.Produce request) there);
    fit = sends.fit;
    few = sends.few;
  }

  -- a message that was sent before changes nothing either
  pub sends_again : (m : Message) → Contains sent m
      → Sends (sent ++ m ∷ []) partition id epoch batches
  sends_again m was = record {
    each = λ before values after e.
        was_later sent (m ∷ []) partition id epoch before values
        (sends.each before values after e);
    only = λ request there its.
        ⊎_elim (λ old. sends.only request old its)
        (λ new. sends.only request (subst (Contains sent) new was) its)
        (Contains-push_cases sent m (msg.Produce request) there);
    fit = sends.fit;
    few = sends.few;
  }

  -- one more batch, behind those before it
  pub sends_more : (request : Produce) (values : Values) → request.partition ≡ partition
      → request.batch ≡ client_batch true (record { id = id; epoch = epoch })
      (length (values_of batches)) (value_records (all_in values))
      → fits values ≡ true → length (values_of batches) + length (all_in values) ≤ 2 ^ 31
      → Sends (sent ++ msg.Produce request ∷ []) partition id epoch (batches ++ values ∷ [])
  sends_more request values here is fit room = record {
    each = λ before v after e.
        ⊎_elim
        (λ h. record {
          request = request;
          handed = Contains-push sent (msg.Produce request);
          here = here;
          text =
              is
              ∙ ap (λ l. client_batch true (record { id = id; epoch = epoch })
              (length (values_of l)) (value_records (all_in values))) h.0
              ∙ ap (λ x. client_batch true (record { id = id; epoch = epoch })
              (length (values_of before)) (value_records (all_in x))) h.1;
        })
        (λ h. was_later sent (msg.Produce request ∷ []) partition id epoch before v
        (sends.each before v h.0 h.1)) (push_split batches before after values v e);
    only = λ other there its.
        ⊎_elim
        (λ old. let t = sends.only other old its in
        record {
          before = t.before;
          values = t.values;
          after = t.after ++ values ∷ [];
          parts = ap (λ l. l ++ values ∷ []) t.parts
              ∙ append_assoc t.before (t.values ∷ t.after) (values ∷ []);
          is = t.is;
        })
        (λ new. record {
          before = batches;
          values = values;
          after = [];
          parts = refl;
          is = ap (λ (r : Produce). r.batch) (sym (same_request request other new)) ∙ is;
        })
        (Contains-push_cases sent (msg.Produce request) (msg.Produce other) there);
    fit = All-push (λ (v : Values). fits v ≡ true) batches values sends.fit fit;
    few = omega (
      arith,
      room,
      ap length (sym (flat_map_more all_in [] batches values)),
      length-append (values_of batches) (all_in values),
    );
  }
