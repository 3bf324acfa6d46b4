use Rattle.ctl_grammar.specs.Depth.{greatest_depth}
use Rattle.ctl_grammar.specs.Text.{answer}
use Rattle.ctl_parse.specs.Parts.{program_node}
use Rattle.ctl_parse.proofs.Answered.{found, fault_refused, no_fault, one_program, program_refused, refused_answer, refused_is, sound_answer}
use Rattle.ctl_parse.proofs.whole.parse.Goals as goal

pub returns-in-None-clause-found : goal.returns-in-None-clause-found
returns-in-None-clause-found c =
    let e = rw c.greatest_depth.ensures at c.whole-tree.ensures in
    let is = sound_answer (answer greatest_depth c.args.tokens.now) (program_node c.whole-tree.result e.0) c.whole-tree.new.self.rest.now c.whole-tree.new.self.fault c.in-None.is e.1 in
    found greatest_depth c.args.tokens.now c.whole-tree.new.self.rest.now c.whole-tree.result e.0 is

pub returns-in-None-clause-all_programs : goal.returns-in-None-clause-all_programs
returns-in-None-clause-all_programs c =
    let e = rw c.greatest_depth.ensures at c.whole-tree.ensures in
    let is = sound_answer (answer greatest_depth c.args.tokens.now) (program_node c.whole-tree.result e.0) c.whole-tree.new.self.rest.now c.whole-tree.new.self.fault c.in-None.is e.1 in
    λ v p. one_program greatest_depth c.args.tokens.now c.whole-tree.new.self.rest.now c.whole-tree.result e.0 v is p

pub returns-in-None-clause-all_faults : goal.returns-in-None-clause-all_faults
returns-in-None-clause-all_faults c =
    let e = rw c.greatest_depth.ensures at c.whole-tree.ensures in
    let is = sound_answer (answer greatest_depth c.args.tokens.now) (program_node c.whole-tree.result e.0) c.whole-tree.new.self.rest.now c.whole-tree.new.self.fault c.in-None.is e.1 in
    λ f h. no_fault greatest_depth c.args.tokens.now c.whole-tree.new.self.rest.now (program_node c.whole-tree.result e.0) f is h

pub returns-in-Some-clause-refused : goal.returns-in-Some-clause-refused
returns-in-Some-clause-refused c =
    let e = rw c.greatest_depth.ensures at c.whole-tree.ensures in
    let is = refused_answer (answer greatest_depth c.args.tokens.now) (program_node c.whole-tree.result e.0) c.whole-tree.new.self.rest.now c.whole-tree.new.self.fault c.in-Some.refused c.in-Some.is e.1 in
    refused_is greatest_depth c.args.tokens.now c.whole-tree.new.self.rest.now (program_node c.whole-tree.result e.0) c.in-Some.refused c.fault_of.result is c.fault_of.ensures

pub returns-in-Some-clause-all_programs : goal.returns-in-Some-clause-all_programs
returns-in-Some-clause-all_programs c =
    let e = rw c.greatest_depth.ensures at c.whole-tree.ensures in
    let is = refused_answer (answer greatest_depth c.args.tokens.now) (program_node c.whole-tree.result e.0) c.whole-tree.new.self.rest.now c.whole-tree.new.self.fault c.in-Some.refused c.in-Some.is e.1 in
    λ v p. program_refused greatest_depth c.args.tokens.now c.whole-tree.new.self.rest.now (program_node c.whole-tree.result e.0) v c.in-Some.refused c.fault_of.result is c.fault_of.ensures p

pub returns-in-Some-clause-all_faults : goal.returns-in-Some-clause-all_faults
returns-in-Some-clause-all_faults c =
    let e = rw c.greatest_depth.ensures at c.whole-tree.ensures in
    let is = refused_answer (answer greatest_depth c.args.tokens.now) (program_node c.whole-tree.result e.0) c.whole-tree.new.self.rest.now c.whole-tree.new.self.fault c.in-Some.refused c.in-Some.is e.1 in
    λ f h. fault_refused greatest_depth c.args.tokens.now c.whole-tree.new.self.rest.now (program_node c.whole-tree.result e.0) c.in-Some.refused c.fault_of.result f is c.fault_of.ensures h
