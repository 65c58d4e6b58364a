use Rattle.std.proofs.Common.{◌≡◌, Option, subst, sym, rules}
use Rattle.kx_script.specs.Command as spells
use Rattle.kx_script.specs.Running.{Reads}
use Rattle.kx_system.specs.System.{SystemEvent}
use Rattle.kx_script.proofs.event.event_in.Goals as goal

pub returns : goal.returns
returns c = λ s st.
    let is : spells.event_in s c.args.line.now
    ≡ spells.event_as s c.in_ok-name.name c.next.new.self = search rules in
    subst (λ (wanted : Option SystemEvent). Reads s.system wanted c.event_as.result) (sym is)
    (c.event_as.ensures s st.0 st.1)
