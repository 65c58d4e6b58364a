-- What sending comes to once nothing is against it.
use Rattle.std.proofs.Common.{◌≡◌, ◌+◌, ◌++◌, ℕ, true, false, not, ◌&&◌, ◌||◌, List, []}
use Rattle.std.proofs.Common.{◌∷◌, length, Option, Some, None, refl, sym, ap, ◌∙◌}
use Rattle.std.specs.Prelude.{is_none, is_some}
use Rattle.kx_batch.specs.Build.{within_limit}
use Rattle.kx_message.specs.Messages as the
use Rattle.kx_message.specs.declared.message.Held.{Held}
use Rattle.kx_message.specs.declared.message.Message.{Message}
use Rattle.kx_client.proofs.Sizes.{length-value_records}
use Rattle.kx_model.specs.Client.{Client, Does, Send, asks, caller_of}
use Rattle.kx_model.specs.Client.{client_batch, command, is_ending, is_used_up, is_window_full}
use Rattle.kx_model.specs.Client.{sending, sequence_of, value_records, with_sequence}

not_none : {A : Type 0} (o : Option A) → is_some o ≡ true → is_none o ≡ false
not_none None e = sym e
not_none (Some x) e = refl

module _ (c : Client) (partition : ℕ) (value : List ℕ) (more : List (List ℕ)) (held : Held) where
  -- the request, which carries this text
  abbrev pub carrying : List ℕ → Message
  carrying text = the.Produce (caller_of c) c.txn partition text

  abbrev pub batch : List ℕ
  batch = client_batch (is_some c.txn) held (sequence_of c.sequences partition)
      (value_records (value ∷ more))

  does : c.failed ≡ false
      → (is_none c.held || is_ending c || (is_some c.txn && not c.in_transaction)) ≡ false
      → c.must_abort ≡ false → is_window_full c partition ≡ false
      → is_used_up c partition (length (value ∷ more)) ≡ false
      → is_some (within_limit (value_records (value ∷ more))) ≡ true → c.held ≡ Some held
      → command c (Send partition value more)
      ≡ asks (sending c partition (length (value_records (value ∷ more)))) (carrying batch)
  unfolding command
  does failed ready abort full used fit holds =
      let fits = not_none (within_limit (value_records (value ∷ more))) fit in
      rw (failed, ready, abort, full, used, fits, holds) refl

  -- the client after it, with this next sequence
  abbrev pub after : ℕ → List ℕ → Client
  after next text = record c {
    sequences = with_sequence c.sequences partition next;
    sent_some = true;
    correlation = c.correlation + 1;
    waiting = c.waiting ++ carrying text ∷ [];
  }

  pub sent : (count next : ℕ) (text : List ℕ) (new : Client) (message : Message)
      → c.failed ≡ false
      → (is_none c.held || is_ending c || (is_some c.txn && not c.in_transaction)) ≡ false
      → c.must_abort ≡ false → is_window_full c partition ≡ false
      → is_used_up c partition count ≡ false
      → is_some (within_limit (value_records (value ∷ more))) ≡ true → c.held ≡ Some held
      → count ≡ length (value ∷ more) → next ≡ sequence_of c.sequences partition + count
      → text ≡ client_batch (is_some c.txn) held (sequence_of c.sequences partition)
      (value_records (value ∷ more))
      → message ≡ carrying text → new ≡ after next text
      → command c (Send partition value more) ≡ Does new (message ∷ [])
  sent count next text new message failed ready abort full used fit holds many next_is is
      message_is new_is =
      does failed ready abort full (ap (is_used_up c partition) (sym many) ∙ used) fit holds
      ∙ ap (λ (n : ℕ). asks (sending c partition n) (carrying batch))
      (length-value_records (value ∷ more) ∙ sym many)
      ∙ ap (λ (t : List ℕ). asks (sending c partition count) (carrying t)) (sym is)
      ∙ ap (λ (n : ℕ). Does (after n text) (carrying text ∷ [])) (sym next_is)
      ∙ ap (λ (d : Client). Does d (carrying text ∷ [])) (sym new_is)
      ∙ ap (λ (m : Message). Does new (m ∷ [])) (sym message_is)
