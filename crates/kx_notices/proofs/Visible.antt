-- The line of a notice is printable ASCII, but for the line feed at its end.
use Rattle.std.proofs.Common.{◌≡◌, ◌∙◌, ◌+◌, ◌++◌, ◌∷◌, [], ℕ, List, Bool, true, false}
use Rattle.std.proofs.Common.{refl, ap, arith, cond, suc, zero}
use Rattle.std.specs.Prelude.{ℤ, codes, decimal, min, nat_lt, pos, negsuc, ◌==◌, ◌&&◌, ◌||◌, ◌/◌, ◌%◌}
use Rattle.std.specs.Fmt.{digit_glyph, digits, digits_onto}
use Rattle.std.proofs.lemmas.Bool.{cond_both}
use Rattle.std.proofs.lemmas.Bool.Decides.{nat_tests}
use Rattle.kx_notices.specs.Texts.{EachIsOneLine, client_text, closing_words}
use Rattle.kx_notices.specs.Texts.{connection_text, counted, range_text, signed_text, topic_text}
use Rattle.kx_notices.specs.Texts.{date_text, digit_of, escaped, escaped_byte, hex_byte, is_visible}
use Rattle.kx_notices.specs.Texts.{latest, quoted, hours_text, refusal_words, seconds_text, shortage_words, text_of, three, two}
use Rattle.kx_notices.specs.Texts.{unserved_text, visible}
use Rattle.kx_notices.specs.declared.closing.Closing.{Closing}
use Rattle.kx_notices.specs.declared.closing.Closing.TheVariants as closing
use Rattle.kx_notices.specs.declared.moment.Date.{Date}
use Rattle.kx_notices.specs.declared.notice.Notice.{Notice}
use Rattle.kx_notices.specs.declared.notice.Notice.TheVariants as notice
use Rattle.kx_notices.specs.declared.notice.Shortage.{Shortage}
use Rattle.kx_notices.specs.declared.notice.Shortage.TheVariants as shortage
use Rattle.kx_notices.specs.declared.notice.TopicRefusal.{TopicRefusal}
use Rattle.kx_notices.specs.declared.notice.TopicRefusal.TheVariants as refusal
use Rattle.kx_notices.specs.declared.notice.Unserved.{Unserved}
use Rattle.kx_notices.specs.declared.notice.Unserved.TheVariants as unserved
use Rattle.kx_notices.specs.declared.said.Said.{Said}

abbrev Vis : List ℕ → Type 0
Vis text = visible text ≡ true

-- one more
more : (c : ℕ) (cs : List ℕ) → is_visible c ≡ true → Vis cs → Vis (c ∷ cs)
more c cs e h = ap (λ (b : Bool). b && visible cs) e ∙ h

first_of_two : (a b : Bool) → (a && b) ≡ true → a ≡ true
first_of_two true b e = refl
first_of_two false b e = e

second_of_two : (a b : Bool) → (a && b) ≡ true → b ≡ true
second_of_two true b e = e
second_of_two false b e = absurd cc

-- two in a row
both : (a b : List ℕ) → Vis a → Vis b → Vis (a ++ b)
both [] b h k = k
both (c ∷ a) b h k =
    more c (a ++ b) (first_of_two (is_visible c) (visible a) h)
    (both a b (second_of_two (is_visible c) (visible a) h) k)

digit_is : (d : ℕ) → is_visible (48 + d % 10) ≡ true
digit_is d = grind (arith, nat_tests)

hex_is : (d : ℕ) → is_visible (digit_of (d % 16)) ≡ true
hex_is d = cond_both (nat_lt (d % 16) 10) _ _ (λ c. is_visible c ≡ true)
    (λ e. grind (arith, nat_tests)) (λ e. grind (arith, nat_tests))

glyph_is : (n : ℕ) → is_visible (digit_glyph false (n % 10)) ≡ true
glyph_is n = cond_both (nat_lt (n % 10) 10) _ _ (λ c. is_visible c ≡ true)
    (λ e. grind (arith, nat_tests)) (λ e. grind (arith, nat_tests))

onto_is : (k n : ℕ) (acc : List ℕ) → Vis acc → Vis (digits_onto k 10 false n acc)
onto_is zero n acc h = h
onto_is (suc k) n acc h =
    let next = more (digit_glyph false (n % 10)) acc (glyph_is n) h in
    cond_both (n / 10 == 0) _ _ Vis (λ e. next)
    (λ e. onto_is k (n / 10) (digit_glyph false (n % 10) ∷ acc) next)

decimal_is : (n : ℕ) → Vis (decimal n)
unfolding digits
decimal_is n = onto_is 64 n [] refl

signed_is : (z : ℤ) → Vis (signed_text z)
unfolding signed_text
signed_is (pos n) = decimal_is n
signed_is (negsuc n) = more 45 (decimal (suc n)) refl (decimal_is (suc n))

two_is : (n : ℕ) → Vis (two n)
two_is n = more (48 + n / 10 % 10) ((48 + n % 10) ∷ []) (digit_is (n / 10))
    (more (48 + n % 10) [] (digit_is n) refl)

three_is : (n : ℕ) → Vis (three n)
three_is n = more (48 + n / 100 % 10) (two (n % 100)) (digit_is (n / 100)) (two_is (n % 100))

hex_byte_is : (byte : ℕ) → Vis (hex_byte byte)
hex_byte_is byte =
    let low = digit_of (byte % 16) in
    more 92 (120 ∷ digit_of (byte / 16 % 16) ∷ low ∷ []) refl
    (more 120 (digit_of (byte / 16 % 16) ∷ low ∷ []) refl
    (more (digit_of (byte / 16 % 16)) (low ∷ []) (hex_is (byte / 16))
    (more low [] (hex_is byte) refl)))

byte_is : (byte : ℕ) → Vis (escaped_byte byte)
byte_is byte =
    cond_both (byte == 34) _ _ Vis (λ e. refl) (λ e.
    cond_both (byte == 92) _ _ Vis (λ f. refl) (λ f.
    cond_both (nat_lt byte 32 || nat_lt 126 byte) _ _ Vis (λ n. hex_byte_is byte)
    (λ n. more byte [] (grind (arith, nat_tests)) refl)))

escaped_is : (bytes : List ℕ) → Vis (escaped bytes)
escaped_is [] = refl
escaped_is (byte ∷ bytes) = both (escaped_byte byte) (escaped bytes) (byte_is byte) (escaped_is bytes)

dots_are : (b : Bool) → Vis (cond b (codes "...") [])
dots_are true = refl
dots_are false = refl

quoted_is : (said : Said) → Vis (quoted said)
quoted_is said =
    let end = cond said.is_cut (codes "...") [] in
    both (codes "\"" ++ escaped said.bytes.items ++ codes "\"") end
    (both (codes "\"" ++ escaped said.bytes.items) (codes "\"")
    (both (codes "\"") (escaped said.bytes.items) refl (escaped_is said.bytes.items)) refl) (dots_are said.is_cut)

counted_is : (n : ℕ) (one many : List ℕ) → Vis one → Vis many → Vis (counted n one many)
counted_is n one many h k =
    both (decimal n) (cond (n == 1) one many) (decimal_is n)
    (cond_both (n == 1) _ _ Vis (λ e. h) (λ e. k))

closing_is : (why : Closing) → Vis (closing_words why)
closing_is closing.Client = refl
closing_is closing.Frame = refl
closing_is closing.Request = refl
closing_is closing.NotServed = refl
closing_is closing.Batch = refl
closing_is closing.Unanswered = refl
closing_is closing.Unwritten = refl
closing_is closing.Slow = refl
closing_is closing.Idle = refl
closing_is closing.Crowded = refl
closing_is closing.Full = refl
closing_is closing.Memory = refl

refusal_is : (why : TopicRefusal) → Vis (refusal_words why)
refusal_is refusal.Name = refl
refusal_is refusal.Forbidden = refl
refusal_is refusal.Full = refl
refusal_is refusal.Device = refl
refusal_is refusal.Memory = refl

shortage_is : (what : Shortage) → Vis (shortage_words what)
shortage_is shortage.Files = refl
shortage_is shortage.Threads = refl
shortage_is shortage.TransactionalIds = refl
shortage_is shortage.Groups = refl

range_is : (least greatest : ℤ) → Vis (range_text least greatest)
range_is least greatest =
    both (signed_text least ++ codes " to " ++ signed_text greatest) (codes " is")
    (both (signed_text least ++ codes " to ") (signed_text greatest)
    (both (signed_text least) (codes " to ") (signed_is least) refl) (signed_is greatest)) refl

unserved_is : (asked : Unserved) → Vis (unserved_text asked)
unserved_is (unserved.Api key) =
    both (codes "API " ++ signed_text key) (codes " isn't served")
    (both (codes "API ") (signed_text key) refl (signed_is key)) refl
unserved_is (unserved.Version api version least greatest) =
    both (escaped api.bytes.items ++ codes " version " ++ signed_text version ++ codes " isn't served, ") (range_text least greatest)
    (both (escaped api.bytes.items ++ codes " version " ++ signed_text version) (codes " isn't served, ")
    (both (escaped api.bytes.items ++ codes " version ") (signed_text version)
    (both (escaped api.bytes.items) (codes " version ") (escaped_is api.bytes.items) refl) (signed_is version)) refl) (range_is least greatest)

connection_is : (n : ℕ) → Vis (connection_text n)
connection_is n = both (codes "connection ") (decimal n) refl (decimal_is n)

client_is : (n : ℕ) (client : Said) → Vis (client_text n client)
client_is n client =
    both (connection_text n ++ codes ": client " ++ quoted client) (codes ": ")
    (both (connection_text n ++ codes ": client ") (quoted client)
    (both (connection_text n) (codes ": client ") (connection_is n) refl) (quoted_is client)) refl

topic_is : (topic : Said) → Vis (topic_text topic)
topic_is topic = both (codes "topic ") (quoted topic) refl (quoted_is topic)

text_is : (what : Notice) → Vis (text_of what)
text_is (notice.Opened connection from) =
    both (connection_text connection ++ codes " from " ++ escaped from.bytes.items) (codes " opened")
    (both (connection_text connection ++ codes " from ") (escaped from.bytes.items)
    (both (connection_text connection) (codes " from ") (connection_is connection) refl) (escaped_is from.bytes.items)) refl
text_is (notice.Closed connection why) =
    both (connection_text connection ++ codes " closed: ") (closing_words why)
    (both (connection_text connection) (codes " closed: ") (connection_is connection) refl) (closing_is why)
text_is (notice.NotServed connection client asked) =
    both (client_text connection client) (unserved_text asked) (client_is connection client) (unserved_is asked)
text_is (notice.TopicMade topic partitions) =
    let count = counted partitions (codes " partition") (codes " partitions") in
    let visible = counted_is partitions (codes " partition") (codes " partitions") refl refl in
    both (topic_text topic ++ codes " made, ") count
    (both (topic_text topic) (codes " made, ") (topic_is topic) refl) visible
text_is (notice.TopicNotMade topic why) =
    both (topic_text topic ++ codes " not made: ") (refusal_words why)
    (both (topic_text topic) (codes " not made: ") (topic_is topic) refl) (refusal_is why)
text_is (notice.RanOut what) = shortage_is what
text_is (notice.LeftOut lines) =
    counted_is lines (codes " line left out") (codes " lines left out") refl refl

date_is : (date : Date) → Vis (date_text date)
date_is date =
    both (decimal date.year ++ codes "-" ++ two date.month ++ codes "-") (two date.day)
    (both (decimal date.year ++ codes "-" ++ two date.month) (codes "-")
    (both (decimal date.year ++ codes "-") (two date.month)
    (both (decimal date.year) (codes "-") (decimal_is date.year) refl) (two_is date.month)) refl) (two_is date.day)

hours_are : (milli : ℕ) → Vis (hours_text milli)
hours_are milli =
    both (codes "T" ++ two (milli / 3600000) ++ codes ":") (two (milli / 60000 % 60))
    (both (codes "T" ++ two (milli / 3600000)) (codes ":")
    (both (codes "T") (two (milli / 3600000)) refl (two_is (milli / 3600000))) refl) (two_is (milli / 60000 % 60))

seconds_are : (milli : ℕ) → Vis (seconds_text milli)
seconds_are milli =
    both (codes ":" ++ two (milli / 1000 % 60) ++ codes "." ++ three (milli % 1000)) (codes "Z")
    (both (codes ":" ++ two (milli / 1000 % 60) ++ codes ".") (three (milli % 1000))
    (both (codes ":" ++ two (milli / 1000 % 60)) (codes ".")
    (both (codes ":") (two (milli / 1000 % 60)) refl (two_is (milli / 1000 % 60))) refl) (three_is (milli % 1000))) refl

pub one_line : EachIsOneLine
one_line time what line is =
    let milli = min time latest % 86400000 in
    record {
      text = date_text is.date ++ hours_text milli ++ seconds_text milli ++ codes " "
          ++ text_of what;
      is_text = is.is_line;
      is_visible =
          both (date_text is.date ++ hours_text milli ++ seconds_text milli ++ codes " ") (text_of what)
          (both (date_text is.date ++ hours_text milli ++ seconds_text milli) (codes " ")
          (both (date_text is.date ++ hours_text milli) (seconds_text milli)
          (both (date_text is.date) (hours_text milli) (date_is is.date) (hours_are milli)) (seconds_are milli)) refl) (text_is what);
    }
