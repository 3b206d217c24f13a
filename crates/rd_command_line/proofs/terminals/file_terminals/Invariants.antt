use Rattle.std.proofs.Common.{◌≡◌, map, take}
use Rattle.std.specs.Prelude.{string_bytes}
use Rattle.rd_options.specs.Options.{replies_name}
use Rattle.rd_command_line.proofs.terminals.file_terminals.Given as goal

-- the terminals are those of the names before this one
abbrev pub invariant-loop-name : goal.invariant-loop-name
invariant-loop-name g l =
    (map (λ terminal. terminal.name.now) l.terminals.items ≡ map (λ name. name.now) (take l.name-index l.names))
    × (map (λ terminal. string_bytes terminal.replies) l.terminals.items ≡ map (λ name. replies_name name.now) (take l.name-index l.names))
