-- The forms of a script's lines, by their first word, and how many words each has after it.
use Rattle.std.specs.Prelude.{ℕ, Bool, ◌||◌, ◌==◌, List, Option, None, Some, codes, bytes_eq, nat_le}
use Rattle.std.specs.Prelude.{if◌then◌else◌}
use Rattle.std.specs.Option.{option_or}
use Rattle.kx_bad_line.specs.declared.forms.Form.{Form}
use Rattle.kx_bad_line.specs.declared.forms.Form.TheVariants as form

-- the forms of commands of clients
abbrev pub client_form : List ℕ → Option Form
client_form word =
    if bytes_eq word (codes "init") then Some form.Init
    else if bytes_eq word (codes "begin") then Some form.Begin
    else if bytes_eq word (codes "send") then Some form.Send
    else if bytes_eq word (codes "commit") then Some form.Commit
    else if bytes_eq word (codes "abort") then Some form.Abort
    else if bytes_eq word (codes "resend") then Some form.Resend
    else if bytes_eq word (codes "poll") then Some form.Poll
    else if bytes_eq word (codes "join") then Some form.Join
    else if bytes_eq word (codes "leave") then Some form.Leave
    else if bytes_eq word (codes "offsets") then Some form.Offsets
    else None

-- the forms of all other events
abbrev pub event_form : List ℕ → Option Form
event_form word =
    if bytes_eq word (codes "client") then Some form.Client
    else if bytes_eq word (codes "processor") then Some form.Processor
    else if bytes_eq word (codes "put") then Some form.Put
    else if bytes_eq word (codes "deliver") then Some form.Deliver
    else if bytes_eq word (codes "expire") then Some form.Expire
    else if bytes_eq word (codes "remind") then Some form.Remind
    else if bytes_eq word (codes "drop") then Some form.Drop
    else if bytes_eq word (codes "restart") then Some form.Restart
    else None

-- the forms of lines that are no event
abbrev pub order_form : List ℕ → Option Form
order_form word =
    if bytes_eq word (codes "world") then Some form.World
    else if bytes_eq word (codes "fail") then Some form.Fail
    else if bytes_eq word (codes "fetch") then Some form.Fetch
    else if bytes_eq word (codes "offset") then Some form.Offset
    else if bytes_eq word (codes "rows") then Some form.Rows
    else None

abbrev pub form_of : List ℕ → Option Form
form_of word = option_or (client_form word) (option_or (event_form word) (order_form word))

-- the form has this many words after the first
abbrev pub fits : Form → ℕ → Bool
fits form.Init count = count == 1
fits form.Begin count = count == 1
fits form.Send count = nat_le 3 count
fits form.Commit count = count == 1
fits form.Abort count = count == 1
fits form.Resend count = count == 1
fits form.Poll count = count == 1
fits form.Join count = count == 2
fits form.Leave count = count == 1
fits form.Offsets count = count == 3
fits form.Client count = count == 2
fits form.Processor count = count == 4
fits form.Put count = nat_le 2 count
fits form.Deliver count = count == 1
fits form.Expire count = count == 1
fits form.Remind count = count == 0
fits form.Drop count = count == 2
fits form.Restart count = count == 1
fits form.World count = count == 1
fits form.Fail count = count == 2
fits form.Fetch count = count == 3 || count == 4
fits form.Offset count = count == 3
fits form.Rows count = count == 0
