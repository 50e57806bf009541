mod WriterLemmas
mod PutLemmas
