use Rattle.rd_segments.proofs.Prelude.{ap, contents_with, contents_of_fields, on_err_weaker, Operates-from_OperatesOn, refl, contents_of_lists, sym}
use Rattle.rd_cell.specs.declared.places.Place.TheVariants as place
use Rattle.rd_cell.specs.declared.contents.Content.TheVariants as content
use Rattle.rd_segments.proofs.SpaceLemmas.{space_operates, same_fields, head_others, tail_others, array_operates}
use Rattle.rd_segments.proofs.space.Space.operate.Goals as goal

pub returns-in-Some-clause-ok : goal.returns-in-Some-clause-ok
returns-in-Some-clause-ok g c =
    space_operates c.args.self.now.makers.items c.operate_on_segment.new.makers.items c.args.self.now.qhead c.args.self.now.qtail c.args.self.now.array
    c.in-Some.name c.args.place c.args.operation (sym c.in-Some.ensures) c.operate_on_segment.result c.operate_on_segment.ensures.ok

pub returns-in-QHead-clause-ok : goal.returns-in-QHead-clause-ok
returns-in-QHead-clause-ok g c =
    let s = c.args.self.now in
    let name = c.operate_on_name.new.name in
    Operates-from_OperatesOn place.QHead c.args.place c.args.operation (content.Name s.qhead) (content.Name name)
    (contents_of_fields s.makers.items s.qhead s.qtail s.array) (contents_of_fields s.makers.items name s.qtail s.array)
    c.in-QHead.is (λ q. refl) refl refl refl (head_others s.makers.items s.qhead name s.qtail s.array) c.operate_on_name.result c.operate_on_name.ensures.ok

pub returns-in-QTail-clause-ok : goal.returns-in-QTail-clause-ok
returns-in-QTail-clause-ok g c =
    let s = c.args.self.now in
    let name = c.operate_on_name-in-QTail.new.name in
    Operates-from_OperatesOn place.QTail c.args.place c.args.operation (content.Name s.qtail) (content.Name name)
    (contents_of_fields s.makers.items s.qhead s.qtail s.array) (contents_of_fields s.makers.items s.qhead name s.array)
    c.in-QTail.is (λ q. refl) refl refl refl (tail_others s.makers.items s.qhead s.qtail name s.array) c.operate_on_name-in-QTail.result c.operate_on_name-in-QTail.ensures.ok

pub returns-in-None-clause-ok : goal.returns-in-None-clause-ok
returns-in-None-clause-ok g c =
    array_operates c.args.self.now.makers.items c.args.self.now.qhead c.args.self.now.qtail c.args.self.now.array c.operate.new.self
    c.args.place c.args.operation (cc) c.operate.result c.operate.ensures.ok

pub returns-in-None-clause-unchanged : goal.returns-in-None-clause-unchanged
returns-in-None-clause-unchanged g c =
    let s = c.args.self.now in
    on_err_weaker c.operate.result (ap (contents_with (contents_of_lists s.makers.items) s.qhead s.qtail)) c.operate.ensures.unchanged

pub returns-in-Some-clause-unchanged : goal.returns-in-Some-clause-unchanged
returns-in-Some-clause-unchanged g c =
    let s = c.args.self.now in
    on_err_weaker c.operate_on_segment.result (same_fields s.makers.items c.operate_on_segment.new.makers.items s.qhead s.qtail s.array) c.operate_on_segment.ensures.unchanged
