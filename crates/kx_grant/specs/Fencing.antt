-- A client that holds an earlier pair than the granted one.
use Rattle.std.specs.Prelude.{◌≡◌, ℕ, ℤ}
use Rattle.kx_message.specs.declared.code.ErrorCode.TheVariants as code
use Rattle.kx_message.specs.declared.message.Held.{Held}
use Rattle.kx_message.specs.declared.requests.EndTxn.{EndTxn}
use Rattle.kx_grant.specs.Grant.{after_add, after_end, end_fenced}
use Rattle.kx_grant.specs.Producer.{add_of, after_batch_of, after_commits, batch_of, end_of}
use Rattle.kx_grant.specs.Producer.{offsets_of, stepped}
use Rattle.kx_grant.specs.declared.heard.Role.TheVariants as role
use Rattle.kx_grant.specs.declared.producer.ClientBatch.{ClientBatch}
use Rattle.kx_grant.specs.declared.producer.Producer.{Producer}
use Rattle.kx_grant.specs.declared.verdicts.BatchVerdict.TheVariants.{Refused}
use Rattle.kx_grant.specs.declared.verdicts.EndStep.TheVariants as step

-- nothing that names this pair is sent to the core or answered with code 0 (KIP-98)
pub record IsRefused (p : Producer) (held : Held) : Type 0 where
  pub adds : (partition : ℕ) → add_of p.grant held ≡ code.InvalidProducerEpoch
  pub batches : (b : ClientBatch) → b.held ≡ held
      → batch_of p.grant b ≡ Refused code.InvalidProducerEpoch
  pub offsets : (count : ℕ) → offsets_of p.grant p.place held count
      ≡ Refused code.InvalidProducerEpoch
  pub ends : (version : ℤ) (asked : EndTxn) → asked.held ≡ held
      → end_of version asked p.grant ≡ step.Answer (end_fenced version)

-- nor does it change what is known of the transactional id
pub record ChangesNothing (p : Producer) (held : Held) : Type 0 where
  pub adds : (partition connection : ℕ)
      → stepped p held role.Coordinator connection (λ g. after_add g held partition) ≡ p
  pub batches : (b : ClientBatch) (connection : ℕ) → b.held ≡ held
      → stepped p b.held role.Batches connection (after_batch_of b) ≡ p
  pub offsets : (count connection : ℕ) → after_commits p held count connection ≡ p
  pub ends : (asked : EndTxn) (connection : ℕ) → asked.held ≡ held
      → stepped p asked.held role.Coordinator connection
      (λ g. after_end g asked.held asked.outcome) ≡ p
