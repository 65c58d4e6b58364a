-- What orders print and leave if what they name is there.
use Rattle.std.proofs.Common.{◌≡◌, ℕ, ℤ, List, Bool, true, false}
use Rattle.std.proofs.Common.{Option, None, Some, Result, Ok, Err, refl, sym, ap, ◌∙◌, subst, inl}
use Rattle.std.specs.Prelude.{is_some}
use Rattle.std.specs.Io.KnownBytes.{Appends}
use Rattle.kx_message.specs.Ranges.{offsets_partition}
use Rattle.kx_message.specs.Values.{where_true}
use Rattle.kx_message.specs.declared.code.ErrorCode.{ErrorCode}
use Rattle.kx_message.specs.declared.message.NodeId.{NodeId}
use Rattle.kx_model.specs.Groups.{OffsetAnswer, offset_fetch}
use Rattle.kx_model.specs.Page.{Fetched, Page, as_fetched, fetched_of}
use Rattle.kx_model.specs.World.{entries_at}
use Rattle.kx_script.specs.Printing.{dash_text}
use Rattle.kx_script.specs.Running.{StandsFor, StandsIn}
use Rattle.kx_script.specs.Script.{Answered, State, begun, fetches, offset_text, performed}
use Rattle.kx_script.specs.Session.{Session, has_node, has_partition, opening, with_mark}
use Rattle.kx_script.specs.declared.order.Left.{Left}
use Rattle.kx_script.specs.declared.order.Order.TheVariants as order
use Rattle.kx_script.specs.declared.world.Running.{Running}
use Rattle.kx_text.specs.Lines.{fetched_text}
use Rattle.kx_text.specs.Pages.{page_text, refused_text}
use Rattle.kx_text.specs.declared.mode.Mode.{Mode}

pub where_it_holds : {A : Type 0} (b : Bool) (x : A) → b ≡ true → where_true b x ≡ Some x
where_it_holds true x e = refl
where_it_holds false x e = absurd cc

------ pages

pub page_shown : (from : ℤ) (mode : Mode) (answer : Result Page ErrorCode) (page : Fetched)
    (old new : Option (List ℕ)) → as_fetched answer ≡ Ok page
    → ((shown : Page) → page ≡ fetched_of shown → Appends old new (page_text from mode shown))
    → Appends old new (fetched_text from mode answer)
page_shown from mode (Ok shown) page old new is written = written shown cc
page_shown from mode (Err code) page old new is written = absurd cc

pub refusal_shown : (from : ℤ) (mode : Mode) (answer : Result Page ErrorCode) (code : ErrorCode)
    (old new : Option (List ℕ)) → as_fetched answer ≡ Err code
    → Appends old new (refused_text code) → Appends old new (fetched_text from mode answer)
refusal_shown from mode (Ok shown) code old new is written = absurd cc
refusal_shown from mode (Err other) code old new is written =
    let same : code ≡ other = cc in
    subst (λ (e : ErrorCode). Appends old new (refused_text e)) same written

------ orders

-- the world is made, if there was none
pub begins : (before : Option Running) (after : Running) (count : ℕ) (old new : Option (List ℕ))
    → is_some before ≡ false → StandsFor after (opening count) → Appends old new dash_text
    → (state : State) → StandsIn before state
    → Answered (StandsIn (Some after)) (begun state count) None old new (Ok true)
begins None after count old new e s w None t =
    (dash_text, Some (opening count), inl refl, s, w)
begins None after count old new e s w (Some session) t = absurd t
begins (Some running) after count old new e s w state t = absurd cc

pub shows_page : (s : Session) (partition : ℕ) (from : ℤ) (mode : Mode) (max : ℕ)
    → has_partition s.system.world partition ≡ true
    → performed s (order.Fetch partition from mode max)
    ≡ Some (fetches s partition from mode max, Some s)
shows_page s partition from mode max e =
    where_it_holds (has_partition s.system.world partition)
    (fetches s partition from mode max, Some s) e

pub shows_offset : (s : Session) (group : List ℕ) (partition : ℕ) (stable : Bool)
    (answer : OffsetAnswer) → has_partition s.system.world partition ≡ true
    → answer ≡ offset_fetch (entries_at s.system.world offsets_partition) group partition stable
    → performed s (order.Offset group partition stable)
    ≡ Some (offset_text answer, Some s)
shows_offset s group partition stable answer e a =
    let entries = entries_at s.system.world offsets_partition in
    where_it_holds (has_partition s.system.world partition)
    (offset_text (offset_fetch entries group partition stable), Some s) e
    ∙ ap (λ (x : OffsetAnswer). Some (offset_text x, Some s)) (sym a)

pub lets_fail : (s : Session) (place : NodeId) (left : Left)
    → has_node s.system.world place ≡ true
    → performed s (order.Fail place left)
    ≡ Some (dash_text, Some (record s { marks = with_mark s.marks place (Some left) }))
lets_fail s place left e =
    where_it_holds (has_node s.system.world place)
    (dash_text, Some (record s { marks = with_mark s.marks place (Some left) })) e
