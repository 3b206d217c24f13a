use Rattle.rd_view.proofs.Prelude.{arith, subst, AllZip, Says, lines_of}
use Rattle.rd_desk.proofs.ChainLemmas.{AllZip-take_more}
use Rattle.rd_view.proofs.viewing.parse_scripts.Goals as goal

pub loop-script-preserved : goal.loop-script-preserved
loop-script-preserved c =
    rw c.in_ok-push.ensures.items (AllZip-take_more (λ script lines. AllZip Says (lines_of script.items) lines.items) c.args.scripts.now c.loop-script.said.items c.loop-script.script-index c.script-item.result c.in-Ok.lines (omega arith) c.script-item.is c.loop-script.invariant
    (subst (λ bytes. AllZip Says (lines_of bytes) c.in-Ok.lines.items) c.as_slice.ensures.value c.in-Ok.ensures.ok))
