use Rattle.std.proofs.Common.{rules, ◌≤◌, length}
use Rattle.rd_options.proofs.GetterLemmas.{empty_files, files_in_rows, no_files, no_view_start, no_view_world}
use Rattle.rd_options.proofs.command_line.view_options.Goals as goal

pub returns-in_default-clause-none : goal.returns-in_default-clause-none
returns-in_default-clause-none c = λ _. no_files c.args.view.now c.in_default.ensures

pub returns-then-is_empty-clause-none : goal.returns-then-is_empty-clause-none
returns-then-is_empty-clause-none c = λ _. empty_files c.args.view.now c.in-Some.files.now c.in-Some.ensures (search rules)

pub returns-in_default-actors_and_ring-clause-none : goal.returns-in_default-actors_and_ring-clause-none
returns-in_default-actors_and_ring-clause-none c = λ _. no_view_world c.args.view.now (c.in_default-actors_and_ring.ensures.none (search rules))

pub returns-in_default-start_and_flags-clause-none : goal.returns-in_default-start_and_flags-clause-none
returns-in_default-start_and_flags-clause-none c = λ _. no_view_start c.args.view.now (c.in_default-start_and_flags.ensures.none (search rules))

pub returns-clause-some : goal.returns-clause-some
returns-clause-some c =
    let same = c.in_ok-files.ensures.items in
    let some : 1 ≤ length c.in-Some.files.now = search rules in
    let rest = c.in-Some-start_and_flags.ensures.some in
    (rw same (files_in_rows c.args.view.now _ c.in-Some.ensures), rw same some, c.in-Some-actors_and_ring.ensures.some, rest.0, rest.1, rest.2, rest.3)
