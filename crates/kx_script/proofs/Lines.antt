-- The lines of messages, from a number on.
use Rattle.std.proofs.Common.{◌≡◌, ◌<◌, ◌≤◌, ◌+◌, ◌++◌, ℕ, zero, suc, List, [], ◌∷◌, length, drop}
use Rattle.std.proofs.Common.{refl, sym, ap, ◌∙◌, arith, add-one}
use Rattle.std.specs.Prelude.{slice_get}
use Rattle.std.proofs.lemmas.List.{length-drop}
use Rattle.kx_message.specs.declared.message.Message.{Message}
use Rattle.kx_message.specs.declared.message.NodeId.{NodeId}
use Rattle.kx_script.specs.Printing.{dash_text, message_lines, messages_text, optional_line}

first_line : (k n : ℕ) (from : NodeId) (sent : List Message) → n < length sent
    → message_lines k from (drop n sent)
    ≡ optional_line k from (slice_get sent n) ++ message_lines (k + 1) from (drop (suc n) sent)
first_line k n from [] h = absurd (omega arith)
first_line k zero from (m ∷ sent) h = refl
first_line k (suc n) from (m ∷ sent) h = first_line k n from sent (omega arith)

-- the line of the first message that is left, and those of the others
pub one_more : (n : ℕ) (from : NodeId) (sent : List Message) → n < length sent
    → message_lines n from (drop n sent)
    ≡ optional_line n from (slice_get sent n) ++ message_lines (n + 1) from (drop (n + 1) sent)
one_more n from sent h = first_line n n from sent h
    ∙ ap (λ (m : ℕ). optional_line n from (slice_get sent n)
    ++ message_lines (n + 1) from (drop m sent)) (sym (add-one n))

drop_past : (n : ℕ) (sent : List Message) → length sent ≤ n → drop n sent ≡ []
drop_past zero [] h = refl
drop_past (suc n) [] h = refl
drop_past zero (m ∷ sent) h = absurd (omega arith)
drop_past (suc n) (m ∷ sent) h = drop_past n sent (omega arith)

-- no message is left
pub none_more : (k n : ℕ) (from : NodeId) (sent : List Message) → length sent ≤ n
    → message_lines k from (drop n sent) ≡ []
none_more k n from sent h = ap (message_lines k from) (drop_past n sent h)

pub none_at_all : (k n : ℕ) (from : NodeId) (sent : List Message) → length sent ≤ n
    → messages_text k from (drop n sent) ≡ dash_text
none_at_all k n from sent h = ap (messages_text k from) (drop_past n sent h)

lines_of_some : (k : ℕ) (from : NodeId) (messages : List Message) → 0 < length messages
    → messages_text k from messages ≡ message_lines k from messages
lines_of_some k from [] h = absurd (omega arith)
lines_of_some k from (m ∷ messages) h = refl

pub some_more : (k n : ℕ) (from : NodeId) (sent : List Message) → n < length sent
    → messages_text k from (drop n sent) ≡ message_lines k from (drop n sent)
some_more k n from sent h =
    lines_of_some k from (drop n sent) (omega (arith, length-drop n sent))
