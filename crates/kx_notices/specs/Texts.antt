-- The text of a notice.
use Rattle.std.specs.Prelude.{◌≡◌, ◌==◌, ◌&&◌, ◌||◌, ◌+◌, ◌/◌, ◌%◌, ◌++◌, ◌∷◌, [], ℕ, Bool, List}
use Rattle.std.specs.Prelude.{ℤ, true, codes, decimal, flat_map, if◌then◌else◌, min, nat_le, nat_lt}
use Rattle.std.specs.Fmt.{signed_decimal}
use Rattle.kx_notices.specs.Dates.{IsDateOf}
use Rattle.kx_notices.specs.declared.moment.Date.{Date}
use Rattle.kx_notices.specs.declared.closing.Closing.{Closing}
use Rattle.kx_notices.specs.declared.closing.Closing.TheVariants as closing
use Rattle.kx_notices.specs.declared.notice.Notice.{Notice}
use Rattle.kx_notices.specs.declared.notice.Notice.TheVariants as notice
use Rattle.kx_notices.specs.declared.notice.Shortage.{Shortage}
use Rattle.kx_notices.specs.declared.notice.Shortage.TheVariants as shortage
use Rattle.kx_notices.specs.declared.notice.TopicRefusal.{TopicRefusal}
use Rattle.kx_notices.specs.declared.notice.TopicRefusal.TheVariants as refusal
use Rattle.kx_notices.specs.declared.notice.Unserved.{Unserved}
use Rattle.kx_notices.specs.declared.notice.Unserved.TheVariants as unserved
use Rattle.kx_notices.specs.declared.said.Said.{Said}

abbrev pub longest_said : ℕ
longest_said = 256

-- the digit of a number below 16
abbrev pub digit_of : ℕ → ℕ
digit_of n = if nat_lt n 10 then 48 + n else 87 + n

abbrev pub hex_byte : ℕ → List ℕ
hex_byte byte = codes "\\x" ++ digit_of (byte / 16 % 16) ∷ digit_of (byte % 16) ∷ []

-- a byte of what a client said: printable ASCII is as it is, but for quotes and backslashes
abbrev pub escaped_byte : ℕ → List ℕ
escaped_byte byte =
    if byte == 34 then codes "\\\""
    else if byte == 92 then codes "\\\\"
    else if nat_lt byte 32 || nat_lt 126 byte then hex_byte byte
    else byte ∷ []

abbrev pub escaped : List ℕ → List ℕ
escaped value = flat_map escaped_byte value

-- what a client said, in quotes, with dots behind them if there was more
abbrev pub quoted : Said → List ℕ
quoted said =
    codes "\"" ++ escaped said.bytes.items ++ codes "\"" ++ (if said.is_cut then codes "..." else [])

abbrev pub closing_words : Closing → List ℕ
closing_words closing.Client = codes "by the client"
closing_words closing.Frame = codes "its frame is too long, or is none"
closing_words closing.Request = codes "its request can't be read"
closing_words closing.NotServed = codes "its request isn't served"
closing_words closing.Batch = codes "its batch is refused, and it wants no answer"
closing_words closing.Unanswered = codes "its request can't be answered"
closing_words closing.Unwritten = codes "an answer can't be written"
closing_words closing.Slow = codes "too many answers wait for it"
closing_words closing.Idle = codes "nothing came for too long"
closing_words closing.Crowded = codes "it speaks for too many clients"
closing_words closing.Full = codes "too many connections are open"
closing_words closing.Memory = codes "out of memory, or of numbers for clients"

abbrev pub refusal_words : TopicRefusal → List ℕ
refusal_words refusal.Name = codes "Kafka doesn't allow its name"
refusal_words refusal.Forbidden = codes "no such topic is made when a client asks for it"
refusal_words refusal.Full = codes "no partitions are free"
refusal_words refusal.Device = codes "its line can't be written to the folder"
refusal_words refusal.Memory = codes "out of memory"

abbrev pub shortage_words : Shortage → List ℕ
shortage_words shortage.Files = codes "no connection can be taken now; the server waits"
shortage_words shortage.Threads = codes "no thread can be started now; the server waits"
shortage_words shortage.TransactionalIds = codes "no more transactional ids are taken"
shortage_words shortage.Groups = codes "no more groups are taken"

-- a number that may be negative
unfoldable pub signed_text : ℤ → List ℕ
signed_text z = signed_decimal z

abbrev pub range_text : ℤ → ℤ → List ℕ
range_text least greatest =
    signed_text least ++ codes " to " ++ signed_text greatest ++ codes " is"

abbrev pub api_text : ℤ → List ℕ
api_text key = codes "API " ++ signed_text key ++ codes " isn't served"

abbrev pub version_text : Said → ℤ → ℤ → ℤ → List ℕ
version_text api version least greatest =
    escaped api.bytes.items ++ codes " version " ++ signed_text version ++ codes " isn't served, "
    ++ range_text least greatest

abbrev pub unserved_text : Unserved → List ℕ
unserved_text (unserved.Api key) = api_text key
unserved_text (unserved.Version api version least greatest) =
    version_text api version least greatest

-- n of something, by its names for one and for more
abbrev pub counted : ℕ → List ℕ → List ℕ → List ℕ
counted n one more = decimal n ++ (if n == 1 then one else more)

abbrev pub connection_text : ℕ → List ℕ
connection_text number = codes "connection " ++ decimal number

-- a client, by its connection and the name that it gives itself
abbrev pub client_text : ℕ → Said → List ℕ
client_text connection client =
    connection_text connection ++ codes ": client " ++ quoted client ++ codes ": "

abbrev pub topic_text : Said → List ℕ
topic_text topic = codes "topic " ++ quoted topic

abbrev pub opened_text : ℕ → Said → List ℕ
opened_text connection from =
    connection_text connection ++ codes " from " ++ escaped from.bytes.items ++ codes " opened"

abbrev pub closed_text : ℕ → Closing → List ℕ
closed_text connection why = connection_text connection ++ codes " closed: " ++ closing_words why

abbrev pub made_text : Said → ℕ → List ℕ
made_text topic partitions =
    topic_text topic ++ codes " made, "
    ++ counted partitions (codes " partition") (codes " partitions")

abbrev pub not_made_text : Said → TopicRefusal → List ℕ
not_made_text topic why = topic_text topic ++ codes " not made: " ++ refusal_words why

abbrev pub text_of : Notice → List ℕ
text_of (notice.Opened connection from) = opened_text connection from
text_of (notice.Closed connection why) = closed_text connection why
text_of (notice.NotServed connection client asked) =
    client_text connection client ++ unserved_text asked
text_of (notice.TopicMade topic partitions) = made_text topic partitions
text_of (notice.TopicNotMade topic why) = not_made_text topic why
text_of (notice.RanOut what) = shortage_words what
text_of (notice.LeftOut lines) = counted lines (codes " line left out") (codes " lines left out")

-- a number below 100 in two digits
abbrev pub two : ℕ → List ℕ
two n = (48 + n / 10 % 10) ∷ (48 + n % 10) ∷ []

-- a number below 1,000 in three digits
abbrev pub three : ℕ → List ℕ
three n = (48 + n / 100 % 10) ∷ two (n % 100)

-- a date (ISO 8601)
abbrev pub date_text : Date → List ℕ
date_text date =
    decimal date.year ++ codes "-" ++ two date.month ++ codes "-" ++ two date.day

-- the hours and minutes of a time of a day, in milliseconds (ISO 8601)
abbrev pub hours_text : ℕ → List ℕ
hours_text milli =
    codes "T" ++ two (milli / 3600000) ++ codes ":" ++ two (milli / 60000 % 60)

-- its seconds, in UTC
abbrev pub seconds_text : ℕ → List ℕ
seconds_text milli =
    codes ":" ++ two (milli / 1000 % 60) ++ codes "." ++ three (milli % 1000) ++ codes "Z"

-- the last millisecond of the year 9999
abbrev pub latest : ℕ
latest = 253402300799999

-- the line of a notice at a time, in milliseconds since 1970
pub record IsLineOf (time : ℕ) (what : Notice) (line : List ℕ) : Type 0 where
  pub date : Date
  pub is_date : IsDateOf (min time latest / 86400000) date
  pub is_line : line ≡ date_text date ++ hours_text (min time latest % 86400000)
      ++ seconds_text (min time latest % 86400000) ++ codes " " ++ text_of what ++ codes "\n"

abbrev pub is_visible : ℕ → Bool
is_visible c = nat_le 32 c && nat_le c 126

-- printable ASCII
abbrev pub visible : List ℕ → Bool
visible [] = true
visible (c ∷ cs) = is_visible c && visible cs

-- one line feed, at the end, and else printable ASCII
pub record IsOneLine (line : List ℕ) : Type 0 where
  pub text : List ℕ
  pub is_text : line ≡ text ++ codes "\n"
  pub is_visible : visible text ≡ true

-- the line of a notice is one line, whatever a client sent
abbrev pub EachIsOneLine : Type 0
EachIsOneLine = (time : ℕ) (what : Notice) (line : List ℕ) → IsLineOf time what line
    → IsOneLine line
