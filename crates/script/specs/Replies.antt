-- The numbers that a reply of the program stands for.
--   values_of  those of an accepted request
--   answer_of  the same, or the refusal
use Rattle.std.specs.Prelude.{ℕ, cond, List, [], ◌∷◌, Ok, Err, Result}
use Rattle.gmap.specs.declared.refusal.Refusal.{Refusal}
use Rattle.script.specs.declared.reply.Reply.{Reply}
use Rattle.script.specs.declared.reply.Reply.TheVariants.{Done, Count, Truth, Listed}

abbrev pub values_of : Reply → List ℕ
values_of Done = []
values_of (Count n) = n ∷ []
values_of (Truth b) = cond b 1 0 ∷ []
values_of (Listed count entries) = count ∷ entries.now

abbrev pub answer_of : Result Reply Refusal → Result (List ℕ) Refusal
answer_of (Ok reply) = Ok (values_of reply)
answer_of (Err e) = Err e
