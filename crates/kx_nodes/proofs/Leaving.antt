-- What a step but a restart leaves of a log.
use Rattle.std.proofs.Common.{◌≡◌, ◌∙◌, Bool, true, false, List, Option, refl, sym, ap}
use Rattle.std.specs.Prelude.{not}
use Rattle.kx_model.specs.Disk.{Disk, Store, Works, Fails, CannotLoad, appended, left_behind, works}
use Rattle.kx_model.specs.Step.{Input, Restarts}

-- the input is no restart
abbrev pub IsPlain : Input → Type 0
IsPlain (Restarts now) = ⊥
IsPlain input = Unit {0}

-- the log stays open, or closed as it is; or an append to it failed, of an entry that may be such
pub data Leaves {A : Type 0} (MayBe : A → Type 0) (store : Store) (before after : Disk A)
    : Type 0 where
  Keeps : after.closed ≡ before.closed → (before.closed ≡ true → after ≡ before)
      → Leaves MayBe store before after
  Shuts : (whole : Bool) (item : A) → before.closed ≡ false → store ≡ Fails whole → MayBe item
      → after.closed ≡ true → after.hidden ≡ left_behind (Fails whole) item
      → Leaves MayBe store before after

module _ {A : Type 0} (MayBe : A → Type 0) (store : Store) where
  pub keeps : (disk : Disk A) → Leaves MayBe store disk disk
  keeps disk = Keeps refl (λ e. refl)

  appends : (kept : List A) (old : Option A) (closed : Bool) (other : Store) (item : A)
      → MayBe item → store ≡ other
      → Leaves MayBe store (record { kept = kept; hidden = old; closed = closed })
      (appended (record { kept = kept; hidden = old; closed = closed }) other item)
  appends kept old true other item may e = Keeps refl (λ e. refl)
  appends kept old false Works item may e = Keeps refl (λ e. cc)
  appends kept old false CannotLoad item may e = Keeps refl (λ e. cc)
  appends kept old false (Fails whole) item may e = Shuts whole item refl e may refl refl

  pub append_leaves : (disk : Disk A) (item : A) → MayBe item
      → Leaves MayBe store disk (appended disk store item)
  append_leaves disk item may =
      appends disk.kept disk.hidden disk.closed store item may refl

  -- one step behind another
  pub leaves_both : (a b c : Disk A) → Leaves MayBe store a b → Leaves MayBe store b c
      → Leaves MayBe store a c
  leaves_both a b c (Keeps e same) (Keeps f alike) =
      Keeps (f ∙ e) (λ closed. alike (e ∙ closed) ∙ same closed)
  leaves_both a b c (Keeps e same) (Shuts whole item opened is may shut left) =
      Shuts whole item (sym e ∙ opened) is may shut left
  leaves_both a b c (Shuts whole item opened is may shut left) (Keeps f alike) =
      Shuts whole item opened is may (f ∙ shut) (ap (λ disk. disk.hidden) (alike shut) ∙ left)
  leaves_both a b c (Shuts whole item opened is may shut left)
      (Shuts also other unshut again might closes behind) = cc

  -- a log that is open was open
  pub was_open : (before after : Disk A) → Leaves MayBe store before after
      → after.closed ≡ false → before.closed ≡ false
  was_open before after (Keeps e same) is = sym e ∙ is
  was_open before after (Shuts whole item opened fails may shut left) is = opened

  -- a log that is closed just where the store doesn't work stays so
  pub still : (before after : Disk A) → Leaves MayBe store before after
      → before.closed ≡ not (works store) → after.closed ≡ not (works store)
  still before after (Keeps e same) is = e ∙ is
  still before after (Shuts whole item opened fails may shut left) is =
      shut ∙ ap (λ s. not (works s)) (sym fails)
