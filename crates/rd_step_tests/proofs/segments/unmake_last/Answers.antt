use Rattle.std.proofs.Common.{◌≡◌, ℕ, ◌<◌, true, is_some, sym, ◌∙◌, ap, inl, inr, arith, Option}
use Rattle.std.proofs.lemmas.Bool.{both_ways, cases_lt}
use Rattle.rd_ring.specs.Prelude.{SegName, Content, is_there}
use Rattle.rd_segments.specs.declared.space.Space.{Space}
use Rattle.rd_segments.specs.Space.{contents, making_count}
use Rattle.rd_segments.proofs.CountLemmas.{absent_from}
use Rattle.rd_step_tests.proofs.segments.unmake_last.Goals as goal

-- the maker of a segment that is there has made one
some_made : {R : ℕ} (space : Space R) (s : SegName) → is_there (contents space) s ≡ true → 0 < making_count space s.maker
some_made space s here =
    elim (cases_lt 0 (making_count space s.maker)) [
      | inl some ↦ some
      | inr none ↦
          absurd (both_ways (is_there (contents space) s)
          (absent_from space.makers.items space.qhead space.qtail space.array s.maker s.n (omega arith)) here)
    ]

pub unmake-requires : goal.unmake-requires
unmake-requires c =
    (omega arith, some_made c.args.space.now c.args.name (ap (λ (x : Option Content). is_some x) (sym c.content.ensures ∙ c.in-Some.is)))
