-- An arm knows how long the bytes are and each byte, which make its name.
use Rattle.std.proofs.Common.{◌≡◌, ℕ, List, length, sym, ap, codes, rules}
use Rattle.std.proofs.lemmas.Slice.Eq.{HasBytesAt, text_from_reads}
use Rattle.reading.specs.Words.{command_of}
use Rattle.reading.proofs.word.Command.read.Goals as goal

spelled : (s name : List ℕ) → length s ≡ length name → HasBytesAt s 0 name → command_of name ≡ command_of s
spelled s name long bytes = ap command_of (sym (text_from_reads s name long bytes))

pub returns-in-make : goal.returns-in-make
returns-in-make c = spelled c.args.bytes.now (codes "make") (search rules) (search rules)

pub returns-in-unmake : goal.returns-in-unmake
returns-in-unmake c = spelled c.args.bytes.now (codes "unmake") (search rules) (search rules)

pub returns-in-join : goal.returns-in-join
returns-in-join c = spelled c.args.bytes.now (codes "join") (search rules) (search rules)

pub returns-in-part : goal.returns-in-part
returns-in-part c = spelled c.args.bytes.now (codes "part") (search rules) (search rules)

pub returns-in-orbit : goal.returns-in-orbit
returns-in-orbit c = spelled c.args.bytes.now (codes "orbit") (search rules) (search rules)

pub returns-in-cells : goal.returns-in-cells
returns-in-cells c = spelled c.args.bytes.now (codes "cells") (search rules) (search rules)

pub returns-in-lawful : goal.returns-in-lawful
returns-in-lawful c = spelled c.args.bytes.now (codes "lawful") (search rules) (search rules)

pub returns-in-whole : goal.returns-in-whole
returns-in-whole c = spelled c.args.bytes.now (codes "whole") (search rules) (search rules)
