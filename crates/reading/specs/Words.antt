-- What a word says.
--   kind_of     the kind of storage that bytes name
--   command_of  the command that bytes name
--   Sense       what a word says: a kind, a command, a number, or nothing
--   sense_of    what bytes say as a word
--   sense       what a word of the program says
--   text_of     its bytes
--   line_of     the number of its line
--   word_of     the word of the program that a part of the script is
--   Reads       a list has the words of a line, in order
use Rattle.std.specs.Prelude.{◌≡◌, ℕ, cond, List, map, Some, None, codes, Option}
use Rattle.std.specs.List.{AllByRecursion}
use Rattle.std.specs.Str.{bytes_eq}
use Rattle.reading.specs.declared.word.Kind.{Kind}
use Rattle.reading.specs.declared.word.Kind.TheVariants as kind
use Rattle.reading.specs.declared.word.Command.{Command}
use Rattle.reading.specs.declared.word.Command.TheVariants as command
use Rattle.reading.specs.declared.word.Part.{Part}
use Rattle.reading.specs.declared.word.Word.{Word}
use Rattle.reading.specs.declared.word.Word.TheVariants as word
use Rattle.reading.specs.Number.{number_of}
use Rattle.reading.specs.Pieces.{words_of}

abbrev pub kind_of : List ℕ → Option Kind
kind_of w =
    cond (bytes_eq w (codes "rows")) (Some kind.Rows)
    None

abbrev pub command_of : List ℕ → Option Command
command_of w =
    cond (bytes_eq w (codes "make")) (Some command.Make)
    (cond (bytes_eq w (codes "unmake")) (Some command.Unmake)
    (cond (bytes_eq w (codes "join")) (Some command.Join)
    (cond (bytes_eq w (codes "part")) (Some command.Part)
    (cond (bytes_eq w (codes "orbit")) (Some command.Orbit)
    (cond (bytes_eq w (codes "cells")) (Some command.Cells)
    (cond (bytes_eq w (codes "lawful")) (Some command.Lawful)
    (cond (bytes_eq w (codes "whole")) (Some command.Whole)
    None)))))))

pub data Sense : Type 0 where
  names : Kind → Sense
  orders : Command → Sense
  counts : ℕ → Sense
  nothing : Sense

-- the first of the three that is there
abbrev pub first_of : Option Kind → Option Command → Option ℕ → Sense
first_of (Some k) c n = names k
first_of None (Some c) n = orders c
first_of None None (Some n) = counts n
first_of None None None = nothing

abbrev pub sense_of : List ℕ → Sense
sense_of w = first_of (kind_of w) (command_of w) (number_of w)

abbrev pub sense : Word → Sense
sense (word.Kind k p) = names k
sense (word.Command c p) = orders c
sense (word.Number n p) = counts n
sense (word.Other p) = nothing

abbrev pub part_of : Word → Part
part_of (word.Kind k p) = p
part_of (word.Command c p) = p
part_of (word.Number n p) = p
part_of (word.Other p) = p

abbrev pub text_of : Word → List ℕ
text_of w = (part_of w).bytes.now

abbrev pub line_of : Word → ℕ
line_of w = (part_of w).line

-- a part of the script, as a word that says s
abbrev pub said_by : Sense → Part → Word
said_by (names k) p = word.Kind k p
said_by (orders c) p = word.Command c p
said_by (counts n) p = word.Number n p
said_by nothing p = word.Other p

abbrev pub word_of : Part → Word
word_of p = said_by (sense_of p.bytes.now) p

-- ws are the words of the line l, whose number is n
pub record Reads (n : ℕ) (ws : List Word) (l : List ℕ) : Type 0 where
  pub texts : map text_of ws ≡ words_of l
  pub senses : map sense ws ≡ map sense_of (words_of l)
  pub line : AllByRecursion (λ w. line_of w ≡ n) ws
