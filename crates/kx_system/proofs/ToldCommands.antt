-- A client that is told commands one after another ends as one that is told them in a row.
use Rattle.std.proofs.Common.{◌≡◌, ℕ, List, [], ◌∷◌, Option, Some, refl, ap, ◌∙◌, subst}
use Rattle.std.proofs.lemmas.Bool.{cond_both}
use Rattle.kx_message.specs.declared.message.Message.{Message}
use Rattle.kx_message.specs.declared.message.NodeId.TheVariants as node
use Rattle.kx_model.specs.Client.{Client, Command, Commanded, Declines, Does, NotReady, Failed}
use Rattle.kx_model.specs.Client.{Poll, all_of, and_then, command, sent_behind}
use Rattle.kx_model.specs.Disk.{Works}
use Rattle.kx_model.specs.Step.{Commands, commanded}
use Rattle.kx_model.specs.World.{World, Event, Hand, at_client, client_at, run, step, with_client}
use Rattle.kx_system.specs.Events.{commands_to, no_change}
use Rattle.kx_system.proofs.ClientNumbers.{Kept, all_kept, number_kept}
use Rattle.kx_system.proofs.ChangedClients.{changed_twice, found_changed, found_number}

-- the world once a command of the client was answered
abbrev pub answered : World → Client → Commanded → World
answered w c done = with_client w (commanded c done).state (commanded c done).messages

-- the client of this number is told a command
abbrev tell : ℕ → Command → Event
tell n what = Hand (node.Client n) (Commands what) Works

one_told : (w : World) (n : ℕ) (c : Client) (what : Command) → client_at w n ≡ Some c
    → (step w (tell n what)).0 ≡ answered w c (command c what)
unfolding step
one_told w n c what there =
    ap (λ (o : Option Client). (at_client w (Commands what) o).0) there

-- a poll changes nothing there
pub nothing_changed : (w : World) (n : ℕ) (c : Client) → client_at w n ≡ Some c
    → run (no_change n) w ≡ with_client w c []
unfolding run command
nothing_changed w n c there =
    one_told w n c Poll there
    ∙ cond_both c.failed (Declines Failed) (Declines NotReady)
    (λ done. answered w c done ≡ with_client w c []) (λ e. refl) (λ e. refl)

-- who did something kept the number
kept_by : (c d : Client) (sent : List Message) (done : Commanded) → done ≡ Does d sent
    → Kept c done → d.number ≡ c.number
kept_by c d sent done is h = subst (λ (r : Commanded). Kept c r) is h

-- one command, and behind it the rest, which is told to the client as the first left it
told_on : (w : World) (n : ℕ) (c d : Client) (what : Command) (before : List Message)
    (rest : List Event) (done : Commanded) (after : Client) (sent : List Message)
    → client_at w n ≡ Some c → command c what ≡ Does d before
    → Kept d done
    → ((last : Client) (more : List Message) → done ≡ Does last more
    → run rest (with_client w d before) ≡ with_client (with_client w d before) last more)
    → sent_behind before done ≡ Does after sent
    → run (tell n what ∷ rest) w ≡ with_client w after sent
unfolding run
told_on w n c d what before rest (Declines fault) after sent there first kept goes is = absurd cc
told_on w n c d what before rest (Does last more) after sent there first kept goes is =
    ap (λ (v : World). run rest v) (one_told w n c what there ∙ ap (answered w c) first)
    ∙ goes last more refl ∙ changed_twice w d last before more kept
    ∙ ap (λ (r : Commanded). answered w c r) is

-- all commands of a row that isn't refused
pub all_told : (w : World) (n : ℕ) (c : Client) (what : Command) (others : List Command)
    (after : Client) (sent : List Message) → client_at w n ≡ Some c
    → all_of c what others ≡ Does after sent
    → run (commands_to n (what ∷ others)) w ≡ with_client w after sent
unfolding run
all_told w n c what [] after sent there is = one_told w n c what there ∙ ap (answered w c) is
all_told w n c what (next ∷ rest) after sent there is =
    begun (command c what) refl
    (λ v d last more there goes. all_told v n d next rest last more there goes) is
  where
    begun : (done : Commanded) → command c what ≡ done
        → ((v : World) (d last : Client) (more : List Message) → client_at v n ≡ Some d
        → all_of d next rest ≡ Does last more
        → run (commands_to n (next ∷ rest)) v ≡ with_client v last more)
        → and_then done (λ d. all_of d next rest) ≡ Does after sent
        → run (commands_to n (what ∷ next ∷ rest)) w ≡ with_client w after sent
    begun (Declines fault) first on is = absurd cc
    begun (Does d before) first on is =
        let number : d.number ≡ n =
        kept_by c d before (command c what) first (number_kept c what) ∙ found_number w n c there in
        told_on w n c d what before (commands_to n (next ∷ rest)) (all_of d next rest) after sent
        there first (all_kept d next rest)
        (λ last more goes. on (with_client w d before) d last more
        (found_changed w n c d before there number) goes) is
