-- What is kept of groups, but for the room that is made, is the same.
use Rattle.std.proofs.Common.{◌≡◌, ℕ, List, refl, ◌∙◌}
use Rattle.kx_commits.specs.Kept.{Kept, SameKept}
use Rattle.kx_commits.specs.Table.{kept_of}
use Rattle.kx_commits.proofs.Growing as commits
use Rattle.kx_members.specs.Standing.{Standing}
use Rattle.kx_members.specs.Table.{standing_in}
use Rattle.kx_model.specs.Log.{Entry, Stored, entries}
use Rattle.kx_group.specs.Follows.{Follows}
use Rattle.kx_group.specs.Internal.Kept.{IsKept, SameNotes}
use Rattle.kx_group.specs.declared.notes.Notes.{Notes}

pub kept_is : (some other : Kept) → SameKept some other → some ≡ other
kept_is some other same = λ i. record {
  slot = λ group partition. same.slots group partition i;
  waiting = λ id. same.waiting id i;
}

pub same_again : (some : Kept) → SameKept some some
same_again some = record { slots = λ group partition. refl; waiting = λ id. refl }

pub same_follows : (log : List Entry) (standing other : List ℕ → Standing) (kept new : Kept)
    → Follows log standing kept → ((group : List ℕ) → other group ≡ standing group)
    → SameKept new kept → Follows log other new
same_follows log standing other kept new follows members same = record {
  members = record { stands = λ group. members group ∙ follows.members.stands group };
  offsets = commits.same_stands kept new log same follows.offsets;
}

pub same_kept : (log : List Stored) (old new : Notes) → IsKept log old → SameNotes old new
    → IsKept log new
same_kept log old new kept same = record {
  groups = kept.groups;
  follows = same_follows (entries log) (standing_in old.members) (standing_in new.members)
      (kept_of old.commits) (kept_of new.commits) kept.follows same.members same.commits;
}
