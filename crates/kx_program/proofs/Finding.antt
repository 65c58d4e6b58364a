-- What clap found: flags that were given, and the subcommand.
use Rattle.std.proofs.Common.{◌≡◌, ◌∙◌, Bool, true, false, List, Option, None, Some, ap, ap₂, arith}
use Rattle.std.proofs.Common.{codes, refl, slice_index, sym}
use Rattle.std.specs.Prelude.{option_map, unwrap_or}
use Rattle.clap.specs.Words.{Row, Text, first_of, subcommand_name_of, subcommand_rows_of}
use Rattle.clap.specs.declared.parser.matches.ArgMatches.{ArgMatches}
use Rattle.clap.specs.declared.parser.matches.ArgMatches.TheViews.{out-ArgMatches}
use Rattle.kx_program.specs.Tasks.{AsksFor, Flags, IsAsked}
use Rattle.kx_program.specs.declared.task.Task.{Task}
use Rattle.kx_program.specs.declared.task.Task.TheVariants as task

pub flags : (text : Option Text) (on : Bool) → (text ≡ None → on ≡ false)
    → (text ≡ Some (codes "true") → on ≡ true) → (text ≡ Some (codes "false") → on ≡ false)
    → Flags text on
flags None on none given not_given = none refl
flags (Some text) on none given not_given = (λ is. given (ap Some is), λ is. not_given (ap Some is))

unsome : {Y : Type 0} (a b : Y) → Some a ≡ Some b → a ≡ b
unsome a b e = ap (λ o. unwrap_or o a) e

-- the subcommand that was found, by its name and by its rows
is_found : {X : Type 0} (name_of : X → Text) (rows_of : X → List Row) (found : Option X)
    (name : Text) (rows : List Row) → Some name ≡ option_map name_of found
    → Some rows ≡ option_map (λ (p : Text × List Row). p.1) (option_map {U = Text × List Row} (λ x. (name_of x, rows_of x)) found)
    → option_map {U = Text × List Row} (λ x. (name_of x, rows_of x)) found ≡ Some (name, rows)
is_found name_of rows_of None name rows named rowed = absurd cc
is_found name_of rows_of (Some x) name rows named rowed =
    ap₂ (λ (n : Text) (r : List Row). let pair : Text × List Row = (n, r) in Some pair) (sym (unsome _ _ named)) (sym (unsome _ _ rowed))

-- what the words ask for, if clap found this subcommand
pub asks : (found : ArgMatches) (name : Text) (rows : List Row) (is_watched : Bool) (what : Task)
    → Some name ≡ subcommand_name_of found
    → Some rows ≡ option_map (λ (p : Text × List Row). p.1) (subcommand_rows_of found)
    → (AsksFor (subcommand_rows_of found) is_watched what ≡ IsAsked name rows is_watched what)
asks found name rows is_watched what named rowed =
    ap (λ (f : Option (Text × List Row)). AsksFor f is_watched what)
    (is_found _ _ (out-ArgMatches found).subcommand name rows named rowed)

-- `dump` without a file asks for nothing
pub asks_no_file : (name : Text) (rows : List Row) (is_watched : Bool) (what : Task)
    → name ≡ codes "dump" → first_of (codes "FILE") rows ≡ None
    → IsAsked name rows is_watched what → ⊥
asks_no_file name rows is_watched (task.Sim pictures) is none asked =
    let named : name ≡ codes "sim" = asked.0 in
    let bad : 100 ≡ 115 = ap (λ (t : Text). slice_index t 0) (sym is ∙ named) in
    absurd (omega (arith, bad))
asks_no_file name rows is_watched (task.Dump path) is none asked =
    let bad : None ≡ Some path.now = sym none ∙ asked.1 in absurd cc
asks_no_file name rows is_watched (task.Serve options) is none asked =
    let named : name ≡ codes "serve" = asked.0 in
    let bad : 100 ≡ 115 = ap (λ (t : Text). slice_index t 0) (sym is ∙ named) in
    absurd (omega (arith, bad))
asks_no_file name rows is_watched (task.Kafka kafka) is none asked =
    let named : name ≡ codes "kafka" = asked.0 in
    let bad : 100 ≡ 107 = ap (λ (t : Text). slice_index t 0) (sym is ∙ named) in
    absurd (omega (arith, bad))
asks_no_file name rows is_watched (task.Demo demo) is none asked =
    let named : name ≡ codes "demo" = asked.0 in
    let bad : 117 ≡ 101 = ap (λ (t : Text). slice_index t 1) (sym is ∙ named) in
    absurd (omega (arith, bad))
asks_no_file name rows is_watched (task.Audit audit) is none asked =
    let named : name ≡ codes "audit" = asked.0 in
    let bad : 100 ≡ 97 = ap (λ (t : Text). slice_index t 0) (sym is ∙ named) in
    absurd (omega (arith, bad))
