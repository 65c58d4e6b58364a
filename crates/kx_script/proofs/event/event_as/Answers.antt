use Rattle.std.proofs.Common.{◌≡◌, subst}
use Rattle.kx_script.specs.Command as spells
use Rattle.kx_script.specs.Running.{Reads}
use Rattle.kx_script.specs.declared.event.Name.{Name}
use Rattle.kx_script.specs.declared.event.Name.TheVariants as name
use Rattle.kx_script.proofs.event.event_as.Goals as goal

pub returns-in-Expire : goal.returns-in-Expire
returns-in-Expire c = λ s st marks.
    let is : name.Expire ≡ c.args.name = cc in
    subst (λ (n : Name). Reads s.system (spells.event_as s n c.args.words) c.expire_event.result) is
    (c.expire_event.ensures s marks)

pub returns-in-Remind : goal.returns-in-Remind
returns-in-Remind c = λ s st marks.
    let is : name.Remind ≡ c.args.name = cc in
    subst (λ (n : Name). Reads s.system (spells.event_as s n c.args.words) c.remind_event.result) is
    (c.remind_event.ensures s marks)

pub returns-in-Drop : goal.returns-in-Drop
returns-in-Drop c = λ s st marks.
    let is : name.Drop ≡ c.args.name = cc in
    subst (λ (n : Name). Reads s.system (spells.event_as s n c.args.words) c.drop_event.result) is
    (c.drop_event.ensures s marks)
