mod Said
