use Rattle.std.proofs.Common.{◌≡◌, inl, inr, ℕ, true, refl, sym, ◌∙◌, subst}
use Rattle.connection_model.specs.Feed.{Got}
use Rattle.net_driver.specs.Served.{has_joined, heard}
use Rattle.driver_tests.proofs.Joined.{joined_stays}
use Rattle.driver_tests.proofs.datagrams.said.Goals as goal

pub take-requires : goal.take-requires
take-requires c =
    let t = c.requires.two in
    inr (
      t.0,
      t.1,
      elim c.requires.player [
        | inl e ↦ subst (λ (n : ℕ). has_joined t.0 n ≡ true) (sym e) t.2
        | inr e ↦ subst (λ (n : ℕ). has_joined t.0 n ≡ true) (sym e) t.3
      ],
    )

pub returns-in-Ok : goal.returns-in-Ok
returns-in-Ok c =
    let t = c.requires.two in (
      _,
      c.in-Ok.ensures.serves t.0 t.1,
      joined_stays t.0 c.args.player 1 (heard (Got c.args.bytes.now)) (λ s. refl) ∙ t.2,
      joined_stays t.0 c.args.player 2 (heard (Got c.args.bytes.now)) (λ s. refl) ∙ t.3,
    )
