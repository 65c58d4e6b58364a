-- The names of nodes.
use Rattle.std.proofs.Common.{◌≡◌, ◌≢◌, ℕ, Bool, true, false, Option, Some, None, refl, sym}
use Rattle.std.proofs.Common.{ap, ◌∙◌, subst}
use Rattle.std.proofs.lemmas.Bool.Decides.{Decides-eqb}
use Rattle.kx_audit.specs.Making.{ClientMaking, NodeMaking, OfClient, OfCoordinator, OfPartition}
use Rattle.kx_audit.specs.Making.{Processes, client_by, client_with, making_of, named, node_of}
use Rattle.kx_audit.specs.Making.{processing_by, processor_making}
use Rattle.kx_audit.specs.Nodes.{same_node}
use Rattle.kx_machine.specs.Meaning.{made_as}
use Rattle.kx_machine.specs.declared.machine.Making.{Making}
use Rattle.kx_machine.specs.declared.machine.Making.TheVariants as making
use Rattle.kx_message.specs.declared.message.NodeId.{NodeId}
use Rattle.kx_message.specs.declared.message.NodeId.TheVariants as node
use Rattle.kx_nodes.specs.Made.{made_processor}
use Rattle.kx_nodes.specs.Replay.{name_of}
use Rattle.kx_nodes.specs.declared.made.ProcessorMaking.{ProcessorMaking}
use Rattle.kx_system.specs.Processor.{Images}
use Rattle.kx_audit.proofs.Lookups.{equal}

pub same_self : (a : NodeId) → same_node a a ≡ true
same_self node.Coordinator = refl
same_self (node.Partition n) = equal n n refl
same_self (node.Client n) = equal n n refl

pub same_is : (a b : NodeId) → same_node a b ≡ true → a ≡ b
same_is node.Coordinator node.Coordinator e = refl
same_is (node.Partition m) (node.Partition n) e =
    ap (λ (k : ℕ). node.Partition k) ((Decides-eqb m n).0 e)
same_is (node.Client m) (node.Client n) e =
    ap (λ (k : ℕ). node.Client k) ((Decides-eqb m n).0 e)
same_is node.Coordinator (node.Partition n) e = absurd cc
same_is node.Coordinator (node.Client n) e = absurd cc
same_is (node.Partition m) node.Coordinator e = absurd cc
same_is (node.Partition m) (node.Client n) e = absurd cc
same_is (node.Client m) node.Coordinator e = absurd cc
same_is (node.Client m) (node.Partition n) e = absurd cc

pub same_not : (a b : NodeId) → same_node a b ≡ false → a ≢ b
same_not a b e is =
    let both : same_node a b ≡ true = subst (λ c. same_node a c ≡ true) is (same_self a) in
    absurd (let h = sym e ∙ both in cc)

pub apart : (a b : NodeId) → a ≢ b → same_node a b ≡ false
apart a b h = by (same_node a b) refl
  where
    by : (c : Bool) → same_node a b ≡ c → c ≡ false
    by true e = absurd (h (same_is a b e))
    by false e = refl

------ the node that a making tells

client_name : (c : ClientMaking) (p : Option Processes)
    → name_of (client_with (client_by c) (processing_by c.number p)) ≡ node.Client c.number
client_name c None = refl
client_name c (Some p) = refl

pub name_is : (m : NodeMaking) → name_of (node_of m) ≡ named m
name_is OfCoordinator = refl
name_is (OfPartition number) = refl
name_is (OfClient c) = client_name c c.processes

pub made_is : (m : Making) → node_of (making_of m) ≡ made_as m
made_is making.Coordinator = refl
made_is (making.Partition number) = refl
made_is (making.Client number txn timeout) = refl

pub processor_is : {P : Type 0} (image_of : P → Images) (m : ProcessorMaking P)
    → node_of (processor_making image_of m) ≡ made_processor image_of m
processor_is image_of m = refl
