-- A request is answered, and its entry appended first.
use Rattle.std.proofs.Common.{◌≡◌, ◌∙◌, [], ◌∷◌, true, false, refl, sym, ap, subst, List, Option}
use Rattle.std.proofs.Common.{Some, None, inl, inr}
use Rattle.kx_message.specs.declared.code.ErrorCode.{ErrorCode}
use Rattle.kx_message.specs.declared.code.ErrorCode.TheVariants.{KafkaStorageError}
use Rattle.kx_message.specs.declared.message.Held.{Held}
use Rattle.kx_message.specs.declared.message.Message.{Message}
use Rattle.kx_model.specs.Coordinator.{TxnEntry}
use Rattle.kx_model.specs.CoordinatorNode.{Reply}
use Rattle.kx_model.specs.Requests.{Answer}
use Rattle.kx_coord.specs.Calls.{HasId, HasNoId, Responds, RespondsBy}
use Rattle.kx_coord.specs.CoordinatorState.{CoordinatorState}
use Rattle.kx_coord.specs.Internal.Answers.{RespondsWith}

-- nothing is appended, and only the reply goes out
pub replied : (co : CoordinatorState) (a : Answer) (reply : Reply) (code : ErrorCode)
    (held : Option Held) (handed : List Message) → RespondsWith None code held co a
    → handed ≡ reply code held ∷ [] → Responds co co a reply handed
replied co a reply code held handed (inl is) out =
    subst (λ (x : Answer). Responds co co x reply handed) (sym is) (refl, out)
replied co a reply code held handed (inr u) out =
    let failed : handed ≡ reply KafkaStorageError None ∷ [] =
    out ∙ (λ i. reply (u.code_is i) (u.none i) ∷ []) in
    subst (RespondsBy co co a reply handed) (sym u.is) (elim u.why [
      | inl none ↦ HasNoId none refl failed
      | inr closed ↦ HasId false (inl (closed, refl)) failed
    ])

-- the log is closed
pub closed : (co : CoordinatorState) (a : Answer) (note : TxnEntry) (code : ErrorCode)
    (held : Option Held) → a ≡ record { note = Some note; code = code; held = held }
    → co.log.closed ≡ true → RespondsWith None KafkaStorageError None co a
closed co a note code held is shut = inr (record {
  note = note;
  is = ap (λ (x : Answer). x.note) is;
  why = inr shut;
  code_is = refl;
  none = refl;
})
