-- What the program did with the scripts in files, and for words.
use Rattle.std.proofs.Common.{◌≡◌, ◌⊎◌, arith, inl, refl, ℕ, List, [], ◌∷◌, ◌++◌, Option, None, Result, Ok, Err, IfOk, IfErr, Vec}
use Rattle.std.specs.Borrow.{Bor}
use Rattle.std.specs.Global.{Global}
use Rattle.std.specs.Result.{IsErrAnd}
use Rattle.clap.specs.Walk.{Text}
use Rattle.rd_marks.specs.BookState.{BookState}
use Rattle.rd_marks.specs.AnyBook.{IsBookIn}
use Rattle.rd_marks.specs.declared.any_book.AnyBook.{AnyBook}
use Rattle.rd_devices.specs.Streams.{IsUnused, Stream}
use Rattle.rd_devices.proofs.ResultLemmas.{passed_up}
use Rattle.rd_program.specs.declared.faults.ProgramFault.{ProgramFault}
use Rattle.rd_program.specs.declared.faults.ProgramFault.TheVariants as program
use Rattle.rd_program.specs.declared.setups.Left.{Left}
use Rattle.rd_program.specs.declared.setups.ViewExtras.{ViewExtras}
use Rattle.rd_program.specs.Program.{IsReadOrNoMemory}
use Rattle.rd_command_line.specs.Answering.{AreWholeTexts, IsWholeText, OpensBook, ViewsFiles}

-- whole texts of files remain so if one more opened file and its whole text are added
pub one_more_text : {F : Type 0} (remaining : F → Option (List ℕ)) (files : List F) (texts : List (Vec ℕ Global)) (opened : F) (text : Vec ℕ Global)
    → AreWholeTexts remaining files texts → IsWholeText remaining opened text.items → AreWholeTexts remaining (files ++ opened ∷ []) (texts ++ text ∷ [])
one_more_text remaining [] texts opened text before is = grind arith
one_more_text remaining (f ∷ files) texts opened text before is = grind (arith, one_more_text remaining files)

-- a view without its book or its files has the fault that `?` passed up
pub not_viewed : {F : Type 0} (remaining : F → Option (List ℕ)) (start : Option (Bor Text)) (count : ℕ) (before : BookState) (extras : ViewExtras) (output : Stream) (fault : ProgramFault) (r : Result Left ProgramFault)
    → IsErrAnd r (λ e. e ≡ fault) → OpensBook remaining start before (Err fault) ⊎ IsReadOrNoMemory fault → IsUnused output → ViewsFiles remaining start count before extras output r
not_viewed remaining start count before extras output fault r is why unused = passed_up (ViewsFiles remaining start count before extras output) fault r is (inl (fault, refl, why, unused))

-- a fresh book, or the refusal of memory for one, is what opening without a trace gives
pub opens_fresh : {F : Type 0} (remaining : F → Option (List ℕ)) (before : BookState) (r : Result AnyBook ProgramFault)
    → IfOk r (IsBookIn before) → IfErr r (λ fault. fault ≡ program.NoMemory) → OpensBook remaining None before r
opens_fresh remaining before (Ok book) ok err = ok
opens_fresh remaining before (Err fault) ok err = err
